-- As many items as are sure to fit, as a part (Parted): of a recording, and of a stream.
use native.Mathlib.Omega.{arith}
use mathlib.Core.Path.{◌≡◌}
use mathlib.Core.Bool.{true}
use lib.ListN.{length}
use Rattle.recording.specs.Items.{items_from}
use Rattle.recording_read.specs.Plays.{Plays}
use Rattle.tool_playback.specs.Parts.{sure_items}
use Rattle.tool_playback.proofs.Parted.{items-fit, items-told-as, frames-told, goes_of}
use Rattle.tool_playback.proofs.parts.next_part.Goals.{After-play_on-p}
use Rattle.tool_playback.proofs.parts.next_part.Goals as goal

-- the items of a recording were read
module _ (c : After-play_on-p) where
  recorded : c.args.how.records ≡ true
  recorded = c.if-how.true

  plays : let a = c.args in
      Plays (items_from (sure_items (length a.out.now) (length a.cells.now)) a.body.now a.how.law a.how.set a.at
      (length a.out.now) (length a.cells.now))
      c.play_on-p.result a.out.now c.play_on-p.new.out a.cells.now c.play_on-p.new.cells
  plays = rw c.sure_items-n.ensures at c.play_on-p.ensures

pub losses-lost-requires : goal.losses-lost-requires
losses-lost-requires c =
    omega (
      arith,
      items-fit _ _ _ _ _ (recorded (goal.at.losses-lost-requires c).After-play_on-p)
          (plays (goal.at.losses-lost-requires c).After-play_on-p),
      c.play_on-p.auto.cells,
    )

pub returns-then-how : goal.returns-then-how
returns-then-how c =
    let t = items-told-as _ _ _ _ _ (recorded (goal.at.returns-then-how c).After-play_on-p)
    (plays (goal.at.returns-then-how c).After-play_on-p) c.losses-lost.ensures c.part_of.ensures in
    record { next_part = t; goes = goes_of _ _ _ _ _ t }

-- those of a stream
pub returns-else-how : goal.returns-else-how
returns-else-how c =
    let frames = rw c.sure_items-n.ensures at c.next_frames.ensures in
    let t = frames-told _ _ _ _ _ c.if-how.false frames c.part_of-else-how.ensures in
    record { next_part = t; goes = goes_of _ _ _ _ _ t }
