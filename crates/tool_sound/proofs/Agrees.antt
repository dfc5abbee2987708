-- Laws of `agreeing`, octet by octet.
use Prim.Native.Nat.{ℕ, suc, ◌+◌, ◌≤◌, ◌<◌}
use mathlib.Core.Path.{◌≡◌, refl}
use mathlib.Core.List.{List, [], ◌∷◌}
use mathlib.Core.Bool.{Bool, true, false, cond}
use native.Mathlib.Omega.{arith}
use native.Mathlib.Numerals.{add-one}
use native.Mathlib.Nat.{add-zero}
use lib.ListN.{length, get_or, take, drop, drop_of_length-le}
use lib.Seq.{drop-cons}
use lib.Dec.{eqb}
use borrow.Author.Tests.{eq-eqb, ne_eqb, eqb-true, eqb-false}
use Rattle.tool_sound.specs.Agreeing.{agreeing}

agreeing-none : (a : List ℕ) → agreeing a [] ≡ 0
unfolding agreeing
agreeing-none [] = refl
agreeing-none (x ∷ a) = refl

module _ (a b : List ℕ) (i : ℕ) where
  -- the end of one of them
  pub agree-first : length a ≤ i → i + agreeing (drop i a) (drop i b) ≡ i
  unfolding agreeing
  agree-first h = rw (drop_of_length-le a h, add-zero)

  pub agree-second : length b ≤ i → i + agreeing (drop i a) (drop i b) ≡ i
  agree-second h = rw (drop_of_length-le b h, agreeing-none, add-zero)

  module _ (p : i < length a) (q : i < length b) where
    pub agree-step : get_or a i 0 ≡ get_or b i 0 → i + agreeing (drop i a) (drop i b) ≡ i + 1 + agreeing (drop (i + 1) a) (drop (i + 1) b)
    unfolding agreeing
    agree-step e = rw (add-one, drop-cons a i 0 p, drop-cons b i 0 q, eq-eqb _ _ e) (omega arith)

    pub agree_differ : (get_or a i 0 ≡ get_or b i 0 → ⊥) → i + agreeing (drop i a) (drop i b) ≡ i
    unfolding agreeing
    agree_differ e = rw (drop-cons a i 0 p, drop-cons b i 0 q, ne_eqb _ _ e, add-zero)

-- what it means: so many octets are the same, and the next ones, where both have one, differ
pub agree_same : (a b : List ℕ) → take (agreeing a b) a ≡ take (agreeing a b) b
unfolding agreeing
agree_same [] b = refl
agree_same (x ∷ a) [] = refl
agree_same (x ∷ a) (y ∷ b) = go (eqb x y) refl (agree_same a b)
  where
    go : (t : Bool) → eqb x y ≡ t → take (agreeing a b) a ≡ take (agreeing a b) b
        → take (cond t (suc (agreeing a b)) 0) (x ∷ a) ≡ take (cond t (suc (agreeing a b)) 0) (y ∷ b)
    go true e rest = rw (eqb-true x y e, rest)
    go false e rest = refl

pub agree-next : (a b : List ℕ) → agreeing a b < length a → agreeing a b < length b → get_or a (agreeing a b) 0 ≡ get_or b (agreeing a b) 0 → ⊥
unfolding agreeing
agree-next [] b h k e = omega arith
agree-next (x ∷ a) [] h k e = omega arith
agree-next (x ∷ a) (y ∷ b) h k e = go (eqb x y) refl (agree-next a b) h k e
  where
    go : (t : Bool) → eqb x y ≡ t
        → (agreeing a b < length a → agreeing a b < length b → get_or a (agreeing a b) 0 ≡ get_or b (agreeing a b) 0 → ⊥)
        → cond t (suc (agreeing a b)) 0 < suc (length a) → cond t (suc (agreeing a b)) 0 < suc (length b)
        → get_or (x ∷ a) (cond t (suc (agreeing a b)) 0) 0 ≡ get_or (y ∷ b) (cond t (suc (agreeing a b)) 0) 0 → ⊥
    go true p rest h k e = rest (omega arith) (omega arith) e
    go false p rest h k e = eqb-false x y p e
