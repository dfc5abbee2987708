use Prim.Native.Nat.{◌-◌}
use lib.ListN.{length}
use Rattle.store_text.proofs.Marks.{Marking}
use Rattle.store_text.proofs.marks_past.Given as goal

-- Mark by mark (Marks, Marking).
abbrev pub invariant-loop-i : goal.invariant-loop-i
invariant-loop-i l = Marking l.text l.at l.i

abbrev pub decreases-loop-i : goal.decreases-loop-i
decreases-loop-i l = length l.text - l.i
