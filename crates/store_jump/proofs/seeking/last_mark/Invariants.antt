use Prim.Native.Nat.{◌-◌}
use Rattle.store_jump.proofs.Halving.{Found}
use Rattle.store_jump.proofs.seeking.last_mark.Given as goal

abbrev pub invariant-loop-low : goal.invariant-loop-low
invariant-loop-low l = Found l.m l.marks l.sample l.low l.high

abbrev pub decreases-loop-low : goal.decreases-loop-low
decreases-loop-low l = l.high - l.low
