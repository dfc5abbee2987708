-- Laws of what is left without a value.
use Prim.Native.Nat.{ℕ, suc, ◌+◌}
use mathlib.Core.Path.{◌≡◌, refl, ap, ◌∙◌}
use mathlib.Core.List.{List, [], ◌∷◌}
use mathlib.Core.Bool.{Bool, true, false, cond}
use native.Mathlib.Omega.{arith}
use lib.ListN.{length}
use lib.Dec.{eqb}
use Rattle.rules.specs.Chooses.{count_of, without}
use Rattle.write_scan.specs.Looks.{count_is}

pub without-cons : (x y : ℕ) (l : List ℕ) (b : Bool) → eqb y x ≡ b → without x (y ∷ l) ≡ cond b (without x l) (y ∷ without x l)
unfolding without
without-cons x y l b e = both (eqb y x) ∙ ap (λ (t : Bool). cond t (without x l) (y ∷ without x l)) e
  where
    both : (t : Bool) → elim t [ true ↦ without x l | false ↦ y ∷ without x l ] ≡ cond t (without x l) (y ∷ without x l)
    both true = refl
    both false = refl

-- each sample is x or is left
pub without-count : (x : ℕ) (l : List ℕ) → count_is x l + length (without x l) ≡ length l
unfolding count_of without
without-count x [] = refl
without-count x (y ∷ l) = rw (without-cons x y l (eqb y x) refl) (step (eqb y x) (without-count x l))
  where
    step : (b : Bool) → count_is x l + length (without x l) ≡ length l
        → cond b 1 0 + count_is x l + length (cond b (without x l) (y ∷ without x l)) ≡ suc (length l)
    step true h = omega arith
    step false h = omega arith
