use Prim.Native.Nat.{◌+◌, ◌≤◌}
use mathlib.Core.Path.{◌≡◌}
use mathlib.Core.Bool.{true}
use lib.ListN.{length}
use Rattle.store_rows.specs.Cells.{rows_in, rows_of}
use Rattle.store_rows.specs.Finding.{gap_from, lowest_gap}
use Rattle.store_rows.specs.Sane.{rising}
use Rattle.store_rows.proofs.rows.lowest_gap.Given as goal

abbrev pub invariant-loop-i : goal.invariant-loop-i
invariant-loop-i l = record {
  gap : lowest_gap l.want l.size (rows_of l.table) ≡ gap_from l.want l.size l.at l.i-iterator.count (rows_in l.i-iterator.iter.cells.now);
  rises : rising 1 l.at l.size (rows_in l.i-iterator.iter.cells.now) ≡ true;
  inside : l.at ≤ l.size;
  all : l.i-iterator.count + length (rows_in l.i-iterator.iter.cells.now) ≡ l.n;
}
