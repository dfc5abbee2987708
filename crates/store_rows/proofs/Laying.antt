-- A row's cells laid (`row_laid_lem`), octets copied (`copy-turn`, `copy-all`).
use Prim.Native.Nat.{ℕ, ◌+◌, ◌≤◌, ◌<◌}
use mathlib.Core.Path.{◌≡◌, refl, ap, ◌∙◌}
use mathlib.Core.List.{List, [], ◌∷◌, ◌++◌, append_assoc}
use native.Mathlib.Omega.{arith}
use native.Mathlib.Numerals.{add-one}
use borrow.Rule.Slice.PartMut.{put_mid}
use lib.ListN.{length, take, drop, get_or, set, length-set}
use lib.Seq.{paste, paste-zero, paste-suc, drop-drop, take-length}
use Rattle.store_rows.specs.declared.rows.Row.{Row}
use Rattle.store_rows.specs.Changed.{row_laid, written}

pub row_laid_lem : {k' : ℕ} {ys : List ℕ} (t : List ℕ) (k : ℕ) (r : Row) → ys ≡ r.number ∷ r.start ∷ r.octets ∷ [] → k' ≡ 3
    → put_mid k k' t ys ≡ row_laid t k r
unfolding row_laid
row_laid_lem t k r e f = rw (e, f, drop-drop 3 k t)

-- i octets are copied
pub record Copying (b : List ℕ) (at : ℕ) (xs : List ℕ) (i : ℕ) (b' : List ℕ) : Type 0 where
  pub is : b' ≡ paste b at xs i
  pub within : i ≤ length xs
  pub size : length b' ≡ length b

pub copy-none : (b : List ℕ) (at : ℕ) (xs : List ℕ) → Copying b at xs 0 b
copy-none b at xs = record { is = paste-zero b at xs; within = omega arith; size = refl }

pub copy-turn : {b b' xs : List ℕ} {at i : ℕ} → Copying b at xs i b' → at + length xs ≤ length b → i < length xs
    → Copying b at xs (i + 1) (set b' (at + i) (get_or xs i 0))
copy-turn {b} {b'} {xs} {at} {i} c h g =
    record {
      is = rw (add-one i) (ap (λ (l : List ℕ). set l (at + i) (get_or xs i 0)) c.is ∙ paste-suc b at xs i 0 (omega arith) g);
      within = omega arith;
      size = length-set b' (at + i) (get_or xs i 0) ∙ c.size;
    }

pub copy-all : {b b' xs : List ℕ} {at i : ℕ} → Copying b at xs i b' → length xs ≤ i → b' ≡ written b at xs
unfolding written
copy-all {b} {b'} {xs} {at} {i} c h =
    let w = c.within in
    let e : i ≡ length xs = omega arith in
    c.is ∙ ap (λ (x : ℕ). paste b at xs x) e ∙ ap (λ (x : List ℕ). (take at b ++ x) ++ drop (at + length xs) b) (take-length xs)
    ∙ append_assoc (take at b) xs (drop (at + length xs) b)
