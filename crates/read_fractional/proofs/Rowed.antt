-- Digits read are below R', so an array that agrees with the row's samples below R' serves as well.
use Prim.Native.Nat.{ℕ, zero, suc, ◌^◌, ◌/◌, ◌<◌}
use mathlib.Core.Path.{◌≡◌, refl, sym, ap, ap₂, ◌∙◌}
use mathlib.Core.List.{List, [], ◌∷◌, ◌++◌, map}
use mathlib.Core.Bool.{Bool, true, false, cond}
use native.Mathlib.Omega.{arith}
use lib.Dec.{ltb}
use lib.ListN.{get_or}
use Rattle.rules.specs.declared.Refusal.TheVariants.{Place}
use Rattle.rules.specs.Samples.{sample_of}
use Rattle.rules.specs.Reading.{Read, whole, refuse, and_then, fail, number_from}
use Rattle.rules.proofs.Octets.{Below, none, more, below-append}
use Rattle.rules.specs.Fractional.{radix, low_at, below_at, value_for, Coding, coding_of}
use Rattle.rules.specs.Fractional.{digits_of, groups_from, groups_as, samples_at, fractional}
use Rattle.read_fractional.specs.Rows.{six}
use Rattle.rules.proofs.Fractional.{digits-below, radix-range, sample-told}

abbrev DigitsOf : ℕ → Read (List ℕ) → Type 0
DigitsOf r (whole ds j) = Below r ds
DigitsOf r (refuse w at) = Unit {0}

picked : (c : Coding) (m start : ℕ) (done : List ℕ) (bits : List ℕ) (b : Bool) (j : ℕ) → DigitsOf c.radix (groups_from c done m bits j)
    → DigitsOf c.radix (cond b (groups_from c done m) (fail Place start) bits j)
picked c m start done bits true j h = h
picked c m start done bits false j h = tt

groups-below : (c : Coding) → 0 < c.radix → (m : ℕ) (done : List ℕ) → Below c.radix done → (bits : List ℕ) (i : ℕ)
    → DigitsOf c.radix (groups_from c done m bits i)
unfolding groups_from
groups-below c h zero done b bits i = b
groups-below c h (suc m) done b bits i =
    go (number_from 0 c.bits bits i)
    (λ v j. groups-below c h m (on v) (below-append b (digits-below c.radix c.group v h)) bits j)
  where
    on : ℕ → List ℕ
    on v = done ++ digits_of c.radix c.group v

    go : (n : Read ℕ) → ((v j : ℕ) → DigitsOf c.radix (groups_from c (on v) m bits j))
        → DigitsOf c.radix (and_then n (λ v j. cond (ltb v (c.radix ^ c.group)) (groups_from c (on v) m) (fail Place i) bits j))
    go (whole v j) f = picked c m i (on v) bits (ltb v (c.radix ^ c.group)) j (f v j)
    go (refuse w at) f = tt

map_same : {r : ℕ} {f g : ℕ → ℕ} → ((d : ℕ) → d < r → f d ≡ g d) → {ds : List ℕ} → Below r ds → map f ds ≡ map g ds
map_same e none = refl
map_same e (more {x = x} h t) = ap₂ ◌∷◌ (e x h) (map_same e t)

pub groups-values : (a b : List ℕ) (c : Coding) (n : ℕ) → 0 < c.radix → ((d : ℕ) → d < c.radix → get_or a d 0 ≡ get_or b d 0) → (bits : List ℕ) (i : ℕ)
    → groups_as a c n bits i ≡ groups_as b c n bits i
unfolding groups_as
groups-values a b c n h e bits i = go (groups_from c [] (n / c.group) bits i) (groups-below c h (n / c.group) [] none bits i)
  where
    go : (m : Read (List ℕ)) → DigitsOf c.radix m
        → and_then m (λ ds j. whole (map (λ d. get_or a d 0) ds) j) ≡ and_then m (λ ds j. whole (map (λ d. get_or b d 0) ds) j)
    go (whole ds j) t = ap (λ (l : List ℕ). whole l j) (map_same e t)
    go (refuse w at) t = refl

-- the six samples of a row's digits serve
six-at : (mask low below d : ℕ) → d < 6 → get_or (six mask low below) d 0 ≡ sample_of mask (value_for low below d)
six-at mask low below zero h = refl
six-at mask low below (suc zero) h = refl
six-at mask low below (suc (suc zero)) h = refl
six-at mask low below (suc (suc (suc zero))) h = refl
six-at mask low below (suc (suc (suc (suc zero)))) h = refl
six-at mask low below (suc (suc (suc (suc (suc zero))))) h = refl
six-at mask low below (suc (suc (suc (suc (suc (suc d)))))) h = absurd (omega arith)

pub body-as : (mask k n : ℕ) {values : List ℕ} {r : ℕ} → k < 12 → values ≡ six mask (low_at k) (below_at k) → r ≡ radix k
    → (bits : List ℕ) (at : ℕ) → fractional mask k n bits at ≡ groups_as values (coding_of r) n bits at
body-as mask k n {values} {r} h e f bits at =
    let range = radix-range k h in
    rw (e, f) (groups-values (samples_at mask k) (six mask (low_at k) (below_at k)) (coding_of (radix k)) n (omega (arith, range.0))
    (λ d l. sample-told mask k d h l ∙ sym (six-at mask (low_at k) (below_at k) d (omega (arith, range.1)))) bits at)
