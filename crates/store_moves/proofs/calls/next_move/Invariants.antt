use Prim.Native.Nat.{◌+◌}
use mathlib.Core.Path.{◌≡◌}
use lib.ListN.{length}
use Rattle.store_rows.specs.Cells.{rows_in}
use Rattle.store_moves.proofs.Calling.{Looking}
use Rattle.store_moves.proofs.calls.next_move.Given as goal

abbrev pub invariant-loop-i : goal.invariant-loop-i
invariant-loop-i l = record {
  looks : Looking l.table l.n l.i-iterator.count l.at (rows_in l.i-iterator.iter.cells.now);
  all : l.i-iterator.count + length (rows_in l.i-iterator.iter.cells.now) ≡ l.n;
}
