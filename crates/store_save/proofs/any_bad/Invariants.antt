use mathlib.Core.Path.{◌≡◌}
use lib.ListN.{drop}
use Rattle.store_rows.specs.Cells.{rows_at}
use Rattle.store_rows.proofs.Left.{left}
use Rattle.store_save.specs.Steps.{bad_by}
use Rattle.store_save.proofs.any_bad.Given as goal

-- Greeting by greeting (Bad).
abbrev pub invariant-loop-i : goal.invariant-loop-i
invariant-loop-i l = bad_by l.block (left l.cells l.n l.i) (drop l.i l.laws) ≡ bad_by l.block (rows_at l.cells l.n 1) l.laws
