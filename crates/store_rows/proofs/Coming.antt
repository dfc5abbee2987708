-- Rows one behind another in cells, as they come: `rows_in-few` (none), `rows_in-first` (one, and the rest), `rows_in-table` (those of a
-- table), `rows_in-behind` (from one of them on).
use Prim.Native.Nat.{ℕ, ◌+◌, ◌*◌, ◌-◌, ◌≤◌, ◌<◌}
use mathlib.Core.Path.{◌≡◌, refl, sym, ap, ◌∙◌}
use mathlib.Core.List.{List, [], ◌∷◌}
use native.Mathlib.Omega.{arith}
use lib.ListN.{length, take, drop, get_or}
use Rattle.store_rows.specs.declared.rows.Row.{Row}
use Rattle.store_rows.specs.Cells.{rows_at, rows_in, cells_of}
use Rattle.store_rows.proofs.Cells.{cells-rows}

pub rows_in-few : (xs : List ℕ) → length xs < 3 → rows_in xs ≡ []
unfolding rows_in
rows_in-few [] h = refl
rows_in-few (a ∷ []) h = refl
rows_in-few (a ∷ b ∷ []) h = refl
rows_in-few (a ∷ b ∷ c ∷ xs) h = absurd (omega arith)

pub rows_in-first : {row rest : List ℕ} (xs : List ℕ) → 3 ≤ length xs → row ≡ take 3 xs → rest ≡ drop 3 xs
    → rows_in xs ≡ record { number = get_or row 0 0; start = get_or row 1 0; octets = get_or row 2 0 } ∷ rows_in rest
unfolding rows_in
rows_in-first [] h e f = absurd (omega arith)
rows_in-first (a ∷ []) h e f = absurd (omega arith)
rows_in-first (a ∷ b ∷ []) h e f = absurd (omega arith)
rows_in-first (a ∷ b ∷ c ∷ xs) h e f = rw (e, f)

rows_in-cells : (rs : List Row) → rows_in (cells_of rs) ≡ rs
unfolding rows_in cells_of
rows_in-cells [] = refl
rows_in-cells (r ∷ rs) = ap (λ (x : List Row). r ∷ x) (rows_in-cells rs)

pub rows_in-table : (t : List ℕ) (n : ℕ) → 1 + 3 * n ≤ length t → rows_in (take (1 + 3 * n - 1) (drop 1 t)) ≡ rows_at t n 1
rows_in-table t n h =
    let e : 1 + 3 * n - 1 ≡ 3 * n = omega arith in
    ap (λ (k : ℕ). rows_in (take k (drop 1 t))) e ∙ ap rows_in (sym (cells-rows t n 1 h)) ∙ rows_in-cells (rows_at t n 1)

-- the same of the rows from row i on
pub rows_in-behind : (t : List ℕ) (n i : ℕ) → i ≤ n → 1 + 3 * n ≤ length t
    → rows_in (take (1 + 3 * n - (1 + 3 * i)) (drop (1 + 3 * i) t)) ≡ rows_at t (n - i) (1 + 3 * i)
rows_in-behind t n i h l =
    let e : 1 + 3 * n - (1 + 3 * i) ≡ 3 * (n - i) = omega arith in
    ap (λ (k : ℕ). rows_in (take k (drop (1 + 3 * i) t))) e ∙ ap rows_in (sym (cells-rows t (n - i) (1 + 3 * i) (omega arith)))
    ∙ rows_in-cells (rows_at t (n - i) (1 + 3 * i))
