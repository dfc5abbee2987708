use Prim.Native.Nat.{◌-◌}
use Rattle.walk.proofs.Along.{Passing}
use Rattle.walk.proofs.walk_on.Given as goal

-- Each turn passes one frame (Along); the measure is how many frames more are allowed.
abbrev pub invariant-loop-passed : goal.invariant-loop-passed
invariant-loop-passed l =
    Passing l.octets l.law l.set l.frames l.at l.room l.samples l.place l.left l.passed

abbrev pub decreases-loop-passed : goal.decreases-loop-passed
decreases-loop-passed l = l.frames - l.passed
