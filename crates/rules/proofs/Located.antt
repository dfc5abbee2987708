-- Value-location (specs/Located) where few places are left. Document 02, R-4: "When D is 0, methods 000 to 101 read no more bits and mean
-- none; 111 reads its two bits and is PLACE."
--   value-goes-on      nothing is asked of what a value leaves
--   full-reads-none, full-means-none, full-listed, full-cut, method-unknown     D = 0, method by method
--   last-listed, last-listed-twice     D = 1, where a listed place has no bits
--   lay-sized          cells that are laid are as many as before, and octets
use Prim.Native.Nat.{ℕ, zero, suc, ◌+◌, ◌≤◌, ◌<◌}
use mathlib.Core.Path.{◌≡◌, refl, ap}
use mathlib.Core.List.{List, [], ◌∷◌}
use mathlib.Core.Bool.{Bool, true, false, cond}
use native.Mathlib.Omega.{arith}
use native.Mathlib.Numerals.{add-one}
use lib.Dec.{eqb}
use lib.ListN.{length, get_or}
use Rattle.rules.specs.declared.Refusal.{Refusal}
use Rattle.rules.specs.declared.Refusal.TheVariants.{Method, Place}
use Rattle.rules.specs.Reading.{whole, refuse, number_from, number, bits_from}
use Rattle.rules.specs.Runs.{runs_from}
use Rattle.rules.specs.Located.{width_from, listed_from, listed, by_method, empty_in, lay, values_into}
use Rattle.rules.proofs.Octets.{Below, none, more, Sized}

-- a value, and then the next one, whatever it leaves
pub value-goes-on : (n z x : ℕ) (xs cells b : List ℕ) (i : ℕ) {m j : ℕ} {flags : List ℕ} {k : ℕ} → number 3 b i ≡ whole m j
    → by_method n (empty_in z cells) i m b j ≡ whole flags k → values_into n z (x ∷ xs) cells b i ≡ values_into n z xs
    (lay z x flags 0 cells) b k
unfolding values_into
value-goes-on n z x xs cells b i e f = rw (e, f)

-- "methods 000 to 101 read no more bits"
pub full-reads-none : (n start m : ℕ) (b : List ℕ) (i : ℕ) → m ≤ 5 → by_method n 0 start m b i ≡ whole [] i
unfolding by_method bits_from runs_from
full-reads-none n start zero b i h = refl
full-reads-none n start (suc zero) b i h = refl
full-reads-none n start (suc (suc zero)) b i h = refl
full-reads-none n start (suc (suc (suc zero))) b i h = refl
full-reads-none n start (suc (suc (suc (suc zero)))) b i h = refl
full-reads-none n start (suc (suc (suc (suc (suc zero))))) b i h = refl
full-reads-none n start (suc (suc (suc (suc (suc (suc m)))))) b i h = absurd (omega arith)

-- ".. and mean none": no cell changes
pub full-means-none : (z x : ℕ) (flags : List ℕ) (p : ℕ) (cells : List ℕ) → empty_in z cells ≡ 0 → lay z x flags p cells ≡ cells
unfolding lay empty_in
full-means-none z x flags p [] h = refl
full-means-none z x flags p (y ∷ cells) h = go (eqb y z) h (full-means-none z x flags p cells)
  where
    go : (b : Bool) → cond b 1 0 + empty_in z cells ≡ 0 → (empty_in z cells ≡ 0 → lay z x flags p cells ≡ cells)
        → cond b (cond (eqb (get_or flags p 0) 1) x z) y ∷ lay z x flags (cond b (p + 1) p) cells ≡ y ∷ cells
    go true h k = absurd (omega arith)
    go false h k = ap (λ (l : List ℕ). y ∷ l) (k (omega arith))

-- "111 reads its two bits and is PLACE", at the end of them
pub full-listed : (n start : ℕ) (b : List ℕ) (i : ℕ) {less j : ℕ} → number 2 b i ≡ whole less j → by_method n 0 start 7 b i ≡ refuse Place j
unfolding by_method listed listed_from width_from number_from
full-listed n start b i {less} e = rw (e, add-one less)

-- cut inside the two bits
pub full-cut : (n start : ℕ) (b : List ℕ) (i : ℕ) {w : Refusal} {at : ℕ}
    → number 2 b i ≡ refuse w at → by_method n 0 start 7 b i ≡ refuse w at
unfolding by_method listed
full-cut n start b i e = rw e

-- 110 is METHOD whatever D is
pub method-unknown : (n d start : ℕ) (b : List ℕ) (i : ℕ) → by_method n d start 6 b i ≡ refuse Method start
unfolding by_method
method-unknown n d start b i = refl

-- D = 1: a listed place has no bits and is 0. One is the last place; a second does not rise, and its first bit is the end of the count
pub last-listed : (n start : ℕ) (b : List ℕ) (i : ℕ) {j : ℕ} → number 2 b i ≡ whole 0 j → by_method n 1 start 7 b i ≡ whole (1 ∷ []) j
unfolding by_method listed listed_from width_from number_from
last-listed n start b i e = rw e

pub last-listed-twice : (n start : ℕ) (b : List ℕ) (i : ℕ) {less j : ℕ} → number 2 b i ≡ whole (suc less) j
    → by_method n 1 start 7 b i ≡ refuse Place j
unfolding by_method listed listed_from width_from number_from
last-listed-twice n start b i {less} e = rw (e, add-one (suc less))

-- cells that are laid
pub lay-sized : (z x : ℕ) (flags : List ℕ) (p : ℕ) {cells : List ℕ} → z < 256 → x < 256 → Below 256 cells
    → Sized 256 (length cells) (lay z x flags p cells)
unfolding lay
lay-sized z x flags p g h none = record { size = refl; below = none }
lay-sized z x flags p g h (more {x = y} {l = cells} k t) =
    record {
      size = ap suc (lay-sized z x flags (cond (eqb y z) (p + 1) p) g h t).size;
      below = more (cell (eqb y z) (eqb (get_or flags p 0) 1)) (lay-sized z x flags (cond (eqb y z) (p + 1) p) g h t).below;
    }
  where
    cell : (b c : Bool) → cond b (cond c x z) y < 256
    cell true true = h
    cell true false = g
    cell false c = k
