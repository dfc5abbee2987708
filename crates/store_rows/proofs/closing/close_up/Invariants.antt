use Prim.Native.Nat.{◌-◌}
use Rattle.store_rows.proofs.Closed.{Closing}
use Rattle.store_rows.proofs.closing.close_up.Given as goal

abbrev pub invariant-loop-i : goal.invariant-loop-i
invariant-loop-i l = Closing l.size l.initial.block l.initial.table l.i l.block l.table l.to l.moved

abbrev pub decreases-loop-i : goal.decreases-loop-i
decreases-loop-i l = l.n - l.i
