use Prim.Native.Nat.{◌-◌, ◌≤◌}
use mathlib.Core.Path.{◌≡◌}
use lib.ListN.{length}
use Rattle.pack.proofs.copied.Given as goal

abbrev pub invariant-loop-at : goal.invariant-loop-at
invariant-loop-at l = (l.at ≤ l.b.size) × (length l.page ≡ length l.initial.page)

abbrev pub decreases-loop-at : goal.decreases-loop-at
decreases-loop-at l = l.b.size - l.at
