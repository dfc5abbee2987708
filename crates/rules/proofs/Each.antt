-- Tests that every one of a list passes, and small laws of tests.
use Prim.Native.Nat.{ℕ, suc, ◌+◌, ◌<◌}
use native.Mathlib.Omega.{arith}
use mathlib.Core.Path.{◌≡◌, refl}
use mathlib.Core.List.{List, [], ◌∷◌, ◌++◌, map}
use mathlib.Core.Bool.{Bool, true, false, cond, ◌&&◌, ◌||◌}
use lib.ListN.{length}
use borrow.Author.Tests.{eqb-true}
use Rattle.rules.proofs.Octets.{Below, none, more}
use Rattle.rules.proofs.Tests.{and_left, and_right}
use Rattle.rules.proofs.Counts.{count-le}
use Rattle.rules.specs.Chooses.{count_of, every}

pub data Each {A : Type 0} (p : A → Bool) : List A → Type 0 where
  nothing : Each p []
  next : {x : A} {s : List A} → p x ≡ true → Each p s → Each p (x ∷ s)

pub each_map : {A : Type 0} {p q : A → Bool} {s : List A} → ((x : A) → p x ≡ true → q x ≡ true) → Each p s → Each q s
each_map f nothing = nothing
each_map f (next {x = x} h t) = next (f x h) (each_map f t)

pub each_append : {A : Type 0} {p : A → Bool} {s t : List A} → Each p s → Each p t → Each p (s ++ t)
each_append nothing u = u
each_append (next h t) u = next h (each_append t u)

pub each_at : {A : Type 0} {p : A → Bool} (s : List A) (x : A) (t : List A) → Each p (s ++ (x ∷ t)) → p x ≡ true
each_at [] x t (next h u) = h
each_at (y ∷ s) x t (next h u) = each_at s x t u

-- the same as one test, to be computed
abbrev pub all : {A : Type 0} → (A → Bool) → List A → Bool
all p [] = true
all p (x ∷ s) = p x && all p s

pub each_all : {A : Type 0} (p : A → Bool) (s : List A) → all p s ≡ true → Each p s
each_all p [] e = nothing
each_all p (x ∷ s) e = next (and_left (p x) (all p s) e) (each_all p s (and_right (p x) (all p s) e))

-- what a test picks
pub pick-below : {m : ℕ} (b : Bool) (x y : ℕ) → x < m → y < m → cond b x y < m
pick-below true x y h k = h
pick-below false x y h k = k

pub below-map : {m : ℕ} (f : ℕ → ℕ) → ((x : ℕ) → f x < m) → (s : List ℕ) → Below m (map f s)
below-map f h [] = none
below-map f h (x ∷ s) = more (h x) (below-map f h s)

pub or_right : (a b : Bool) → b ≡ true → a || b ≡ true
or_right true b e = refl
or_right false b e = e

pub or-false : (b : Bool) → b || false ≡ true → b ≡ true
or-false true e = refl
or-false false e = e

-- "every" by its count is each one
each_from : (p : ℕ → Bool) (s : List ℕ) → count_of p s ≡ length s → Each p s
unfolding count_of
each_from p [] e = nothing
each_from p (x ∷ s) e = next (first (p x) e) (each_from p s (rest (p x) e))
  where
    first : (b : Bool) → cond b 1 0 + count_of p s ≡ suc (length s) → b ≡ true
    first true f = refl
    first false f = absurd (omega (arith, count-le p s))

    rest : (b : Bool) → cond b 1 0 + count_of p s ≡ suc (length s) → count_of p s ≡ length s
    rest true f = omega arith
    rest false f = absurd (omega (arith, count-le p s))

pub each_of : (p : ℕ → Bool) (s : List ℕ) → every p s ≡ true → Each p s
each_of p s e = each_from p s (eqb-true (count_of p s) (length s) e)
