use Prim.Native.Nat.{◌-◌}
use Rattle.store_rows.proofs.Shifting.{Shifting}
use Rattle.store_rows.proofs.closing.shift.Given as goal

abbrev pub invariant-loop-i : goal.invariant-loop-i
invariant-loop-i l = Shifting l.initial.block l.from l.to l.n l.i l.block

abbrev pub decreases-loop-i : goal.decreases-loop-i
decreases-loop-i l = l.n - l.i
