use Prim.Native.Nat.{◌-◌}
use lib.ListN.{length}
use Rattle.store_greeting.proofs.Taking.{Taking}
use Rattle.store_greeting.proofs.marks.take.Given as goal

abbrev pub invariant-loop-at : goal.invariant-loop-at
invariant-loop-at l = Taking l.law l.octets l.initial.marks l.marks l.m l.at l.samples

abbrev pub decreases-loop-at : goal.decreases-loop-at
decreases-loop-at l = length l.octets - l.at
