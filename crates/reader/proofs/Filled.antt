-- The filling bits, one after the other: the value stays whatever it is.
use Prim.Native.Nat.{ℕ, zero, suc, ◌+◌, ◌-◌, ◌/◌, ◌≤◌, ◌<◌}
use mathlib.Core.Path.{◌≡◌, refl, sym, ap, ◌∙◌}
use mathlib.Core.List.{List}
use mathlib.Core.Bool.{Bool, true, false, cond}
use native.Mathlib.Omega.{arith}
use lib.ListN.{length, get_or}
use lib.Dec.{eqb}
use borrow.Author.Tests.{eq-eqb, ne_eqb}
use Rattle.rules.specs.declared.Refusal.TheVariants.{Align}
use Rattle.rules.specs.Bits.{bits_of}
use Rattle.rules.specs.Reading.{Read, whole, refuse, and_then, fail, bit, filled}
use Rattle.read_bits.proofs.OneBit.{bit-there}

module _ (s : List ℕ) (end at : ℕ) where
  pub filled-turn : at < end → at / 8 < length s → get_or (bits_of s) at 0 ≡ 0
      → filled {A = ℕ} 0 (end - at) (bits_of s) at ≡ filled 0 (end - (at + 1)) (bits_of s) (at + 1)
  unfolding filled
  filled-turn h g z =
      let e : end - at ≡ suc (end - (at + 1)) = omega arith in
      rw (e, bit-there s at g, eq-eqb _ 0 z)

  pub filled-wrong : at < end → at / 8 < length s → (get_or (bits_of s) at 0 ≡ 0 → ⊥)
      → filled {A = ℕ} 0 (end - at) (bits_of s) at ≡ refuse Align at
  unfolding filled
  filled-wrong h g z =
      let e : end - at ≡ suc (end - (at + 1)) = omega arith in
      rw (e, bit-there s at g, ne_eqb _ 0 z)

  pub filled-done : end ≤ at → filled {A = ℕ} 0 (end - at) (bits_of s) at ≡ whole 0 at
  unfolding filled
  filled-done h = let e : end - at ≡ 0 = omega arith in rw e

-- one value for another
module _ {A B : Type 0} (a : A) (c : B) where
  abbrev Same : ℕ → List ℕ → ℕ → Type 0
  Same n b i = filled a n b i ≡ and_then (filled c n b i) (λ x j. whole a j)

  by-test : (n : ℕ) (b : List ℕ) (i : ℕ) (t : Bool) (j : ℕ) → Same n b j
      → cond t (filled a n) (fail Align i) b j ≡ and_then (cond t (filled c n) (fail Align i) b j) (λ x j. whole a j)
  by-test n b i true j ih = ih
  by-test n b i false j ih = refl

  by_bit : (n : ℕ) (b : List ℕ) (i : ℕ) (m : Read ℕ) → ((j : ℕ) → Same n b j)
      → and_then m (λ f j. cond (eqb f 0) (filled a n) (fail Align i) b j)
      ≡ and_then (and_then m (λ f j. cond (eqb f 0) (filled c n) (fail Align i) b j)) (λ x j. whole a j)
  by_bit n b i (whole f j) ih = by-test n b i (eqb f 0) j (ih j)
  by_bit n b i (refuse w at) ih = refl

  pub filled-as : (n : ℕ) (b : List ℕ) (i : ℕ) → Same n b i
  unfolding filled
  filled-as zero b i = refl
  filled-as (suc n) b i = by_bit n b i (bit b i) (λ j. filled-as n b j)

-- what the filling bits of 0 were read as, m, tells what those of any value are read as
pub filled-by : {A : Type 0} (a : A) (n : ℕ) (b : List ℕ) (i : ℕ) (m : Read ℕ) → m ≡ filled 0 n b i
    → and_then m (λ x j. whole a j) ≡ filled a n b i
filled-by {A} a n b i m e = ap (λ (m : Read ℕ). and_then m (λ x j. whole a j)) e ∙ sym (filled-as a 0 n b i)
