use Prim.Native.Nat.{◌-◌}
use lib.ListN.{length}
use Rattle.store_save.proofs.Walking.{Walking}
use Rattle.store_save.proofs.marks_walked.Given as goal

-- Mark by mark, as the greeting is walked (Walking).
abbrev pub invariant-loop-at : goal.invariant-loop-at
invariant-loop-at l = Walking l.law l.octets l.text l.place l.i l.at l.samples

abbrev pub decreases-loop-at : goal.decreases-loop-at
decreases-loop-at l = length l.octets - l.at
