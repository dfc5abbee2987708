-- The mark that stands alone, or a frame.
use mathlib.Core.Path.{refl, sym, ◌∙◌}
use native.Mathlib.Omega.{arith}
use Rattle.recording_read.proofs.item_at.Goals as goal

pub returns-then-is_mark : goal.returns-then-is_mark
returns-then-is_mark c =
    rw (sym c.is_mark.ensures ∙ c.if-is_mark.true)
    (record { tells = rw c.lost_turn.ensures; sound = refl; size = omega arith })

pub returns : goal.returns
returns c = rw (sym c.is_mark.ensures ∙ c.if-is_mark.false) c.frame_turn.ensures
