-- How many flags are 1: of two parts, and of places of the common kind.
use Prim.Native.Nat.{ℕ, zero, suc, ◌+◌}
use mathlib.Core.Path.{◌≡◌, refl}
use mathlib.Core.List.{List, [], ◌∷◌, ◌++◌}
use mathlib.Core.Bool.{Bool}
use native.Mathlib.Omega.{arith}
use lib.ListN.{replicate}
use Rattle.rules.specs.Chooses.{count_of}
use Rattle.read_runs.specs.Flagged.{marked}

pub count-append : (p : ℕ → Bool) (l k : List ℕ) → count_of p (l ++ k) ≡ count_of p l + count_of p k
unfolding count_of
count-append p [] k = omega arith
count-append p (x ∷ l) k = let e = count-append p l k in omega arith

pub marked-none : (n : ℕ) → marked (replicate n 0) ≡ 0
unfolding count_of
marked-none zero = refl
marked-none (suc n) = let e = marked-none n in omega arith

-- a run: so many of the common kind, and one of the other
pub marked-run : (done : List ℕ) (v : ℕ) → marked (done ++ (replicate v 0 ++ (1 ∷ []))) ≡ marked done + 1
unfolding count_of
marked-run done v =
    let e = marked-none v in
    let one : marked (1 ∷ []) ≡ 1 = refl in
    simp count-append (omega arith)
