-- One item is read, and told as a piece (Pieces).
use mathlib.Core.Path.{◌≡◌, ◌∙◌}
use native.Mathlib.Omega.{arith}
use native.Mathlib.Nat.{le_of_lt}
use lib.ListN.{length, drop}
use Rattle.read_head.specs.Heads.{head_of, head_tool}
use Rattle.std.proofs.Common.{Ok}
use Rattle.recording.specs.Items.{items_from}
use Rattle.recording_next.specs.Next.{Piece, item_here, piece_end, piece_tool}
use Rattle.recording_next.proofs.Pieces.{recorded_of, one-item, ended-as, place-behind, piece-refused, Few, few-here, piece-found}
use Rattle.recording_next.proofs.Pieces.{tool-here}
use Rattle.recording_next.proofs.item_at.Goals.{After-play_on-r}
use Rattle.recording_next.proofs.item_at.Goals as goal

-- one item was read
module _ (c : After-play_on-r) where
  abbrev here : Piece
  here = item_here c.args.octets.now c.args.law c.args.set c.args.at (length c.args.out.now)

  one : items_from 1 c.args.octets.now c.args.law c.args.set c.args.at (length c.args.out.now) 1
      ≡ recorded_of here c.args.at
  one = one-item c.args.octets.now c.args.law c.args.set c.args.at (length c.args.out.now) c.requires.1

  few : Few here
  few = few-here c.args.octets.now c.args.law c.args.set c.args.at (length c.args.out.now)

  tool : piece_end here ≡ Ok tt → head_tool (head_of (drop c.args.at c.args.octets.now) c.args.set) ≡ piece_tool here
  tool = tool-here c.args.octets.now c.args.law c.args.set c.args.at (length c.args.out.now) c.requires.0 c.requires.1

pub overflow_sub-result : goal.overflow_sub-result
overflow_sub-result c =
    omega (
      arith,
      place-behind c.args.at (item_here c.args.octets.now c.args.law c.args.set c.args.at (length c.args.out.now))
          (rw (one (goal.at.overflow_sub-result c).After-play_on-r) at c.play_on-r.ensures),
    )

pub tool_at-requires : goal.tool_at-requires
tool_at-requires c = le_of_lt c.requires.1

pub returns-in-Err : goal.returns-in-Err
returns-in-Err c =
    piece-refused (item_here c.args.octets.now c.args.law c.args.set c.args.at (length c.args.out.now))
    (rw (one (goal.at.returns-in-Err c).After-play_on-r) at c.play_on-r.ensures) c.in-Err.is (c.unread.ensures _)

pub returns-in-Ok : goal.returns-in-Ok
returns-in-Ok c =
    let read = rw (one (goal.at.returns-in-Ok c).After-play_on-r) at c.play_on-r.ensures in
    let e = c.in-Ok.is in
    piece-found (item_here c.args.octets.now c.args.law c.args.set c.args.at (length c.args.out.now))
    (few (goal.at.returns-in-Ok c).After-play_on-r) read e c.kind_of.ensures c.samples_of.ensures
    (c.tool_at.ensures ∙ tool (goal.at.returns-in-Ok c).After-play_on-r
    (ended-as c.args.at (item_here c.args.octets.now c.args.law c.args.set c.args.at (length c.args.out.now)) read e))
