-- Laws of counting the samples that pass a test.
use Prim.Native.Nat.{ℕ, zero, suc, ◌+◌, ◌≤◌}
use mathlib.Core.Path.{◌≡◌, refl}
use mathlib.Core.List.{List, [], ◌∷◌}
use mathlib.Core.Bool.{Bool, true, false, cond}
use native.Mathlib.Omega.{arith}
use lib.ListN.{length, replicate}
use lib.Dec.{eqb}
use borrow.Author.Tests.{eq-eqb}
use Rattle.rules.specs.Chooses.{count_of}

-- no more pass than there are
pub count-le : (p : ℕ → Bool) (s : List ℕ) → count_of p s ≤ length s
unfolding count_of
count-le p [] = omega arith
count-le p (x ∷ s) = step (p x) (count-le p s)
  where
    step : (b : Bool) → count_of p s ≤ length s → cond b 1 0 + count_of p s ≤ suc (length s)
    step true h = omega arith
    step false h = omega arith

-- all pass where all are the one that is asked for
pub count-replicate : (x n : ℕ) → count_of (λ y. eqb y x) (replicate n x) ≡ n
unfolding count_of
count-replicate x zero = refl
count-replicate x (suc n) = rw (eq-eqb x x refl, count-replicate x n) (omega arith)
