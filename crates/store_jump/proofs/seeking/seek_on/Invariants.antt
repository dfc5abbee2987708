use Prim.Native.Nat.{◌-◌}
use Rattle.store_jump.proofs.Along.{Along}
use Rattle.store_jump.proofs.seeking.seek_on.Given as goal

abbrev pub invariant-loop-n : goal.invariant-loop-n
invariant-loop-n l =
    Along l.octets l.law l.at l.first l.before l.sample l.samples l.place l.left l.passed l.n

abbrev pub decreases-loop-n : goal.decreases-loop-n
decreases-loop-n l =
    64 - l.n
