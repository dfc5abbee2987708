-- The rows from row i on, as a loop sees them: `left-all`, `left-none`, `left_step`.
use Prim.Native.Nat.{ℕ, suc, ◌+◌, ◌*◌, ◌-◌, ◌≤◌, ◌<◌}
use mathlib.Core.Path.{◌≡◌, ap, ◌∙◌}
use mathlib.Core.List.{List, [], ◌∷◌}
use native.Mathlib.Omega.{arith}
use lib.ListN.{length}
use Rattle.store_rows.specs.declared.rows.Row.{Row}
use Rattle.store_rows.specs.Cells.{row_at, rows_at}
use Rattle.std.proofs.Common.{Option}
use Rattle.std.specs.Prelude.{unwrap_or}
use Rattle.store_rows.specs.Finding.{find_from, place_of}
use Rattle.store_rows.proofs.Cells.{length-rows}
use Rattle.store_rows.proofs.Finding.{place-or}

abbrev pub left : List ℕ → ℕ → ℕ → List Row
left t n i = rows_at t (n - i) (1 + 3 * i)

pub left-all : (t : List ℕ) (n : ℕ) → rows_at t n 1 ≡ left t n 0
left-all t n = let e : n - 0 ≡ n = omega arith in rw e

pub left-none : (t : List ℕ) (n i : ℕ) → n ≤ i → left t n i ≡ []
unfolding rows_at
left-none t n i h = let e : n - i ≡ 0 = omega arith in rw e

pub left_step : (t : List ℕ) (n i : ℕ) {r : Row} → r ≡ row_at t (1 + 3 * i) → i < n → left t n i ≡ r ∷ left t n (i + 1)
unfolding rows_at
left_step t n i e h =
    let f : n - i ≡ suc (n - (i + 1)) = omega arith in
    let g : 1 + 3 * i + 3 ≡ 1 + 3 * (i + 1) = omega arith in
    rw (e, f, g)

-- the place of a number, or the place past them
pub place-left : {o : Option ℕ} {f : ℕ} (t : List ℕ) (n x : ℕ) → o ≡ place_of x (rows_at t n 1) → f ≡ unwrap_or o n
    → (f ≡ find_from x 0 (left t n 0)) × (f ≤ n)
place-left t n x e g =
    let p = place-or x n (rows_at t n 1) (length-rows t n 1) (g ∙ ap (λ (o : Option ℕ). unwrap_or o n) e) in
    (p.0 ∙ ap (λ (r : List Row). find_from x 0 r) (left-all t n), p.1)

-- how many they are
pub left-count : (t : List ℕ) (n i : ℕ) → i ≤ n → i + length (left t n i) ≡ n
left-count t n i h = omega (arith, length-rows t (n - i) (1 + 3 * i))
