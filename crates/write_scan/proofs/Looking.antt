-- Laws of looking at a frame: what one sample more adds.
use Prim.Native.Nat.{ℕ, ◌+◌, ◌<◌, min, max}
use mathlib.Core.Path.{◌≡◌, sym}
use mathlib.Core.List.{List, [], ◌∷◌, ◌++◌}
use mathlib.Core.Bool.{Bool, cond}
use native.Mathlib.Omega.{arith}
use native.Mathlib.Numerals.{add-one}
use lib.ListN.{length, get_or, take}
use lib.Seq.{take-suc}
use Rattle.rules.specs.Samples.{signed, on_line}
use Rattle.rules.specs.Chooses.{count_of, least_of, greatest_of}

count-snoc : (p : ℕ → Bool) (l : List ℕ) (x : ℕ) → count_of p (l ++ (x ∷ [])) ≡ count_of p l + cond (p x) 1 0
unfolding count_of
count-snoc p [] x = omega arith
count-snoc p (y ∷ l) x = let e = count-snoc p l x in omega arith

least-snoc : (mask : ℕ) (l : List ℕ) (x : ℕ) → least_of mask (l ++ (x ∷ [])) ≡ min (least_of mask l) (on_line (signed mask x))
unfolding least_of
least-snoc mask [] x = omega arith
least-snoc mask (y ∷ l) x = let e = least-snoc mask l x in omega arith

greatest-snoc : (mask : ℕ) (l : List ℕ) (x : ℕ) → greatest_of mask (l ++ (x ∷ [])) ≡ max (greatest_of mask l) (on_line (signed mask x))
unfolding greatest_of
greatest-snoc mask [] x = omega arith
greatest-snoc mask (y ∷ l) x = let e = greatest-snoc mask l x in omega arith

module _ (s : List ℕ) (i : ℕ) (h' : i < length s) where
  -- one sample more
  pub count-more : (p : ℕ → Bool) {n r : ℕ} → n ≡ count_of p (take i s) → r ≡ cond (p (get_or s i 0)) 1 0 → n + r ≡ count_of p (take (i + 1) s)
  count-more p e f = rw (e, f, add-one i, take-suc s i 0 h') (sym (count-snoc p (take i s) (get_or s i 0)))

  pub least_more : (mask : ℕ) {n r : ℕ} → n ≡ least_of mask (take i s) → r ≡ on_line (signed mask (get_or s i 0))
      → min n r ≡ least_of mask (take (i + 1) s)
  least_more mask e f = rw (e, f, add-one i, take-suc s i 0 h') (sym (least-snoc mask (take i s) (get_or s i 0)))

  pub greatest-more : (mask : ℕ) {n r : ℕ} → n ≡ greatest_of mask (take i s) → r ≡ on_line (signed mask (get_or s i 0))
      → max n r ≡ greatest_of mask (take (i + 1) s)
  greatest-more mask e f = rw (e, f, add-one i, take-suc s i 0 h') (sym (greatest-snoc mask (take i s) (get_or s i 0)))
