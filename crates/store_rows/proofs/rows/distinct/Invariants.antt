use mathlib.Core.Path.{◌≡◌}
use Rattle.store_rows.specs.Cells.{rows_in, rows_at}
use Rattle.store_rows.specs.Sane.{numbered}
use Rattle.store_rows.proofs.rows.distinct.Given as goal

abbrev pub invariant-loop-r : goal.invariant-loop-r
invariant-loop-r l = numbered (rows_at l.table l.n 1) ≡ numbered (rows_in l.rest.cells.now)
