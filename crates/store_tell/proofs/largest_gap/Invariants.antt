use Rattle.store_rows.specs.Cells.{rows_in, rows_of}
use Rattle.store_tell.proofs.Telling.{Seeing}
use Rattle.store_tell.proofs.largest_gap.Given as goal

abbrev pub invariant-loop-r : goal.invariant-loop-r
invariant-loop-r l = Seeing (rows_of l.table) l.size l.at l.best (rows_in l.r-iterator.cells.now)
