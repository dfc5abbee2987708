use Prim.Native.Nat.{◌+◌}
use mathlib.Core.Path.{◌≡◌}
use lib.ListN.{length, drop}
use Rattle.store_rows.specs.Cells.{rows_at, rows_in}
use Rattle.store_rows.proofs.Left.{left}
use Rattle.store_notes.specs.Sane.{matched}
use Rattle.store_notes.proofs.fits.Given as goal

-- Row by row, beside the notes' heads (Matched).
abbrev pub invariant-loop-i : goal.invariant-loop-i
invariant-loop-i l = record {
  match : matched (rows_at l.table l.n 1) (rows_at (drop 97 l.table) l.n 1)
      ≡ matched (rows_in l.i-iterator.iter.cells.now) (left (drop 97 l.table) l.n l.i-iterator.count);
  all : l.i-iterator.count + length (rows_in l.i-iterator.iter.cells.now) ≡ l.n;
}
