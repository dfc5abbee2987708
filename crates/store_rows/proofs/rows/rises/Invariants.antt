use mathlib.Core.Path.{◌≡◌}
use Rattle.store_rows.specs.Cells.{rows_in, rows_at}
use Rattle.store_rows.specs.Sane.{rising}
use Rattle.store_rows.proofs.rows.rises.Given as goal

abbrev pub invariant-loop-r : goal.invariant-loop-r
invariant-loop-r l = rising l.least 0 l.size (rows_at l.table l.n 1) ≡ rising l.least l.end l.size (rows_in l.r-iterator.cells.now)
