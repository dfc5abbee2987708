use Prim.Native.Nat.{◌-◌}
use mathlib.Core.Path.{◌≡◌}
use lib.ListN.{length}
use Rattle.store_text.proofs.Reading.{Stand}
use Rattle.store_text.proofs.read_rows.Given as goal

-- Greeting by greeting (Reading, Stand).
abbrev pub invariant-loop-at : goal.invariant-loop-at
invariant-loop-at l = (length l.cells ≡ length l.initial.cells) × Stand l.text l.initial.cells l.cells l.k l.at

abbrev pub decreases-loop-at : goal.decreases-loop-at
decreases-loop-at l = 32 - l.k
