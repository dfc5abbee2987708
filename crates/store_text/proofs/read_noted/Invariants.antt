use Prim.Native.Nat.{◌-◌}
use mathlib.Core.Path.{◌≡◌}
use lib.ListN.{length}
use Rattle.store_text.proofs.Noting.{Noting}
use Rattle.store_text.proofs.read_noted.Given as goal

-- Greeting by greeting (Noting).
abbrev pub invariant-loop-at : goal.invariant-loop-at
invariant-loop-at l =
    (length l.cells ≡ length l.initial.cells) × (length l.laws ≡ length l.initial.laws) × Noting l.form.most l.form.from l.text
    l.initial.cells l.cells l.initial.laws l.laws l.k l.at

abbrev pub decreases-loop-at : goal.decreases-loop-at
decreases-loop-at l = 32 - l.k
