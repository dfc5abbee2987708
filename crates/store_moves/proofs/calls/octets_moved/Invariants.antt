use Rattle.store_rows.specs.Cells.{rows_in, rows_of}
use Rattle.store_moves.proofs.Calling.{Summing}
use Rattle.store_moves.proofs.calls.octets_moved.Given as goal

abbrev pub invariant-loop-r : goal.invariant-loop-r
invariant-loop-r l = Summing (rows_of l.table) l.size l.to l.moved (rows_in l.r-iterator.cells.now)
