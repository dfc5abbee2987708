-- Greetings put down as a verdict says: their cells copied (`rows-put`), then their notes; or nothing (`held-stop`).
use Prim.Native.Nat.{ℕ, suc, ◌+◌, ◌*◌, ◌≤◌}
use mathlib.Core.Path.{◌≡◌, refl}
use mathlib.Core.List.{List, [], ◌∷◌, ◌++◌}
use native.Mathlib.Omega.{arith}
use lib.ListN.{length, get_or, take, drop}
use Rattle.store_rows.specs.Limits.{row_cells}
use Rattle.store_rows.specs.Cells.{rows_at, laid}
use Rattle.store_rows.proofs.Cells.{length-rows, cells-rows}
use Rattle.store.specs.declared.Refusal.{Refusal}
use Rattle.store_save.specs.Verdicts.{Verdict}
use Rattle.std.specs.Prelude.{Err}
use Rattle.store_save.specs.Steps.{AllNotes, Holds}

-- the cells copied to a table's start are its rows
pub rows-put : (cells t : List ℕ) (n : ℕ) → 1 + row_cells * n ≤ length cells → get_or cells 0 0 ≡ n
    → take (1 + row_cells * n) cells ++ drop (1 + row_cells * n) t ≡ laid (rows_at cells n 1) t
unfolding laid
rows-put cells t n long c =
    rw (first cells (omega arith) c, length-rows cells n 1, cells-rows cells n 1 long)
  where
    first : (l : List ℕ) → 1 ≤ length l → get_or l 0 0 ≡ n → take (1 + row_cells * n) l ≡ n ∷ take (row_cells * n) (drop 1 l)
    first [] g e = absurd (omega arith)
    first (x ∷ l) g e = let s : 1 + row_cells * n ≡ suc (row_cells * n) = omega arith in rw (s, e)

-- what a verdict leads to
pub held-stop : {v : Verdict} {w : Refusal} (b cells laws t : List ℕ) (n : ℕ) → v ≡ Err w → Holds v b cells laws n t t (Err w)
held-stop b cells laws t n e = rw e (record { answer = refl; table = refl })

-- a table of the same length has the same room
pub notes-kept : {b cells laws : List ℕ} {n size : ℕ} {t t' : List ℕ} → AllNotes b cells laws n size t → length t' ≡ length t
    → AllNotes b cells laws n size t'
notes-kept a e =
    record {
      few = a.few;
      cells-room = a.cells-room;
      laws-room = a.laws-room;
      inside = a.inside;
      small = a.small;
      rises = a.rises;
      fine = a.fine;
      room = omega (arith, a.room);
    }
