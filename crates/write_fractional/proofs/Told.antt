-- A frame's row by what was looked at.
use Prim.Native.Nat.{ℕ}
use mathlib.Core.Path.{◌≡◌, refl}
use mathlib.Core.List.{List}
use mathlib.Core.Bool.{not}
use lib.Dec.{eqb}
use lib.ListN.{length}
use Rattle.rules.specs.Samples.{minus_zero}
use Rattle.rules.specs.Fractional.{row_count}
use Rattle.rules.specs.Chooses.{row_from, frame_row}
use Rattle.write_scan.specs.declared.Extent.{Extent}
use Rattle.write_fractional.specs.Keys.{row_in}
use Rattle.write_scan.specs.Looks.{count_is, ExtentIs}

pub row_told : (mask : ℕ) (s : List ℕ) {e : Extent} {x count rows : ℕ} → ExtentIs mask s e → x ≡ minus_zero mask → count ≡ count_is x s
    → rows ≡ row_count (length s) → row_in (row_from e.least e.greatest (not (eqb count 0)) 0 rows) ≡ row_in (frame_row mask s)
unfolding frame_row
row_told mask s t x count rows = rw (t.least, t.greatest, count, x, rows) refl
