-- Empty cells, and a value laid into them (specs/Located): each flag that is 1 fills one.
use Prim.Native.Nat.{ℕ, zero, suc, ◌+◌, ◌≤◌, ◌<◌}
use mathlib.Core.Path.{◌≡◌, refl, ap, ◌∙◌}
use mathlib.Core.List.{List, [], ◌∷◌}
use mathlib.Core.Bool.{Bool, true, false, cond}
use native.Mathlib.Omega.{arith}
use native.Mathlib.Numerals.{add-one}
use lib.Dec.{eqb}
use lib.ListN.{length, get_or, drop, replicate, drop_of_length-le}
use lib.Seq.{drop-cons}
use borrow.Author.Tests.{eq-eqb}
use Rattle.rules.specs.Located.{empty_in, lay}
use Rattle.rules.specs.Chooses.{count_of}

pub empty-most : (z : ℕ) (cells : List ℕ) → empty_in z cells ≤ length cells
unfolding empty_in
empty-most z [] = omega arith
empty-most z (y ∷ cells) = go (eqb y z) (empty-most z cells)
  where
    go : (b : Bool) → empty_in z cells ≤ length cells → cond b 1 0 + empty_in z cells ≤ suc (length cells)
    go true h = omega arith
    go false h = omega arith

pub empty-all : (z n : ℕ) → empty_in z (replicate n z) ≡ n
unfolding empty_in
empty-all z zero = refl
empty-all z (suc n) = let e = empty-all z n in rw (eq-eqb z z refl) (omega arith)

pub length-lay : (z x : ℕ) (flags : List ℕ) (p : ℕ) (cells : List ℕ) → length (lay z x flags p cells) ≡ length cells
unfolding lay
length-lay z x flags p [] = refl
length-lay z x flags p (y ∷ cells) = ap suc (length-lay z x flags (cond (eqb y z) (p + 1) p) cells)

one_cell : (z x : ℕ) (b : Bool) → eqb x z ≡ false → cond (eqb (cond b x z) z) 1 0 + cond b 1 0 ≡ 1
one_cell z x true h = rw h
one_cell z x false h = rw (eq-eqb z z refl)

-- the flags from place p on
lay-from : (z x : ℕ) (flags : List ℕ) (p : ℕ) (cells : List ℕ) → eqb x z ≡ false → length flags ≡ p + empty_in z cells
    → empty_in z (lay z x flags p cells) + count_of (λ f. eqb f 1) (drop p flags) ≡ empty_in z cells
unfolding lay empty_in count_of
lay-from z x flags p [] h e = rw (drop_of_length-le flags {i = p} (omega arith))
lay-from z x flags p (y ∷ cells) h e = go (eqb y z) refl e (lay-from z x flags (p + 1) cells h) (lay-from z x flags p cells h)
  where
    go : (b : Bool) → eqb y z ≡ b → length flags ≡ p + (cond b 1 0 + empty_in z cells)
        → (length flags ≡ p + 1 + empty_in z cells → empty_in z (lay z x flags (p + 1) cells) + count_of (λ f. eqb f 1)
        (drop (p + 1) flags) ≡ empty_in z cells)
        → (length flags ≡ p + empty_in z cells → empty_in z (lay z x flags p cells) + count_of (λ f. eqb f 1) (drop p flags) ≡ empty_in z cells)
        → empty_in z (cond b (cond (eqb (get_or flags p 0) 1) x z) y ∷ lay z x flags (cond b (p + 1) p) cells) + count_of
        (λ f. eqb f 1) (drop p flags) ≡ cond b 1 0 + empty_in z cells
    go true q k i j =
        let s = i (omega arith) in
        let o = one_cell z x (eqb (get_or flags p 0) 1) h in
        let l : p < length flags = omega arith in
        let t : count_of (λ f. eqb f 1) (drop p flags) ≡ cond (eqb (get_or flags p 0) 1) 1 0 + count_of (λ f. eqb f 1) (drop (p + 1) flags) =
        rw (drop-cons flags p 0 l, add-one p) in
        omega arith
    go false q k i j = let s = j (omega arith) in rw q (omega arith)

-- what is left empty is what was, less the flags that are 1
pub lay-count : (z x : ℕ) (flags cells : List ℕ) → eqb x z ≡ false → length flags ≡ empty_in z cells
    → empty_in z (lay z x flags 0 cells) + count_of (λ f. eqb f 1) flags ≡ empty_in z cells
lay-count z x flags cells h e = lay-from z x flags 0 cells h (e ∙ omega arith)
