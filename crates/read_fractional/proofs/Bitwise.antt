-- Where R' is 2, a group is a bit.
use Prim.Native.Nat.{ℕ, zero, suc, ◌+◌, ◌*◌, ◌^◌, ◌/◌, ◌%◌, ◌<◌}
use mathlib.Core.Path.{◌≡◌, refl, subst}
use mathlib.Core.List.{List, [], ◌∷◌, ◌++◌, map}
use mathlib.Core.Bool.{Bool, true, false, cond}
use native.Mathlib.Omega.{arith}
use lib.Dec.{ltb, lit<}
use lib.ListN.{length, get_or}
use Rattle.rules.specs.declared.Refusal.{Refusal}
use Rattle.rules.specs.declared.Refusal.TheVariants.{Short, Place}
use Rattle.rules.specs.Bits.{bits_of}
use Rattle.rules.specs.Reading.{Read, whole, refuse, and_then, fail, bit, number_from, bits_from}
use Rattle.rules.specs.Fractional.{coding, digits_of, groups_from, groups_as}
use Rattle.rules.proofs.Octets.{Below, below_at, bits_of-below}
use Rattle.rules.proofs.Gives.{no-refusal, same-value}

bit-small : {b : List ℕ} → Below 2 b → (i : ℕ) {a j : ℕ} → bit b i ≡ whole a j → a < 2
unfolding bit
bit-small {b} z i {a} {j} e = go (ltb i (length b)) e
  where
    go : (t : Bool) → cond t (whole (get_or b i 0) (i + 1)) (refuse Short i) ≡ whole a j → a < 2
    go true e = subst (λ (x : ℕ). x < 2) (same-value e) (below_at z (lit< tt) i)
    go false e = no-refusal e

groups-bits : {b : List ℕ} → Below 2 b → (done : List ℕ) (m i : ℕ) → groups_from (coding 2 1 1) done m b i ≡ bits_from done m b i
unfolding groups_from bits_from number_from digits_of
groups-bits z done zero i = refl
groups-bits {b} z done (suc m) i = go (bit b i) (λ a j e. bit-small z i e) (λ a j. groups-bits z (done ++ (a ∷ [])) m j)
  where
    go : (r : Read ℕ) → ((a j : ℕ) → r ≡ whole a j → a < 2)
        → ((a j : ℕ) → groups_from (coding 2 1 1) (done ++ (a ∷ [])) m b j ≡ bits_from (done ++ (a ∷ [])) m b j)
        → and_then (and_then r (λ a j. whole (2 * 0 + a) j))
        (λ v j. cond (ltb v (2 ^ 1)) (groups_from (coding 2 1 1) (done ++ (v % 2 ∷ [])) m) (fail Place i) b j)
        ≡ and_then r (λ a j. bits_from (done ++ (a ∷ [])) m b j)
    go (whole zero j) small later = later 0 j
    go (whole (suc zero) j) small later = later 1 j
    go (whole (suc (suc a)) j) small later = absurd (let h = small (suc (suc a)) j refl in omega arith)
    go (refuse w at) small later = refl

module _ (values s : List ℕ) (n at : ℕ) where
  pub bits-whole : {flags : List ℕ} {next : ℕ} → bits_from [] n (bits_of s) at ≡ whole flags next
      → groups_as values (coding 2 1 1) n (bits_of s) at ≡ whole (map (λ d. get_or values d 0) flags) next
  unfolding groups_as
  bits-whole e =
      let k : n / 1 ≡ n = omega arith in
      rw (k, groups-bits (bits_of-below s) [] n at, e)

  pub bits-refused : {w : Refusal} {bit : ℕ} → bits_from [] n (bits_of s) at ≡ refuse w bit
      → groups_as values (coding 2 1 1) n (bits_of s) at ≡ refuse w bit
  unfolding groups_as
  bits-refused e =
      let k : n / 1 ≡ n = omega arith in
      rw (k, groups-bits (bits_of-below s) [] n at, e)
