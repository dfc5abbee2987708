use mathlib.Core.Path.{◌≡◌}
use Prim.Native.Nat.{◌-◌, ◌≤◌}
use Rattle.settings.specs.Revisions.{look_up}
use Rattle.settings.specs.State.{rows_at}
use Rattle.settings.proofs.look_up.Given as goal

abbrev pub invariant-loop-k : goal.invariant-loop-k
invariant-loop-k l = (l.k ≤ 8) × (look_up l.n (rows_at l.state 8 0) ≡ look_up l.n (rows_at l.state (8 - l.k) l.k))
