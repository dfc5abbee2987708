-- A turn of the loop that looks for the least width with D at most its power of 2.
use Prim.Native.Nat.{ℕ, zero, suc, ◌+◌, ◌-◌, ◌^◌, ◌≤◌, ◌<◌}
use mathlib.Core.Path.{◌≡◌, refl, sym, ◌∙◌}
use mathlib.Core.Bool.{Bool, true, false}
use native.Mathlib.Omega.{arith}
use native.Mathlib.Numerals.{add-one}
use native.Mathlib.Nat.{sub-zero, pow-suc}
use lib.Dec.{leb}
use lib.Pow.{pow_mono}
use borrow.Author.Tests.{le-leb, lt-leb, leb-true, leb-false}
use Rattle.rules.specs.Located.{width_from, width_of}

pub record Widening (d width power : ℕ) : Type 0 where
  pub so_far : width_from 0 d d ≡ width_from width (d - width) d
  pub doubled : power ≡ 2 ^ width
  pub below : width < power
  pub small : width ≤ 9

pub widening-none : (d : ℕ) → Widening d 0 1
widening-none d = record { so_far = rw sub-zero; doubled = refl; below = omega arith; small = omega arith }

below-nine : (w : ℕ) → 2 ^ w < 320 → w < 9
below-nine w h = go (leb 9 w) refl
  where
    go : (b : Bool) → leb 9 w ≡ b → w < 9
    go true e = let p : 512 ≤ 2 ^ w = pow_mono {i = 9} (leb-true 9 w e) in absurd (omega arith)
    go false e = leb-false 9 w e

module _ {d width power : ℕ} (g : Widening d width power) where
  pub widening-turn : d ≤ 320 → power < d → Widening d (width + 1) (power + power)
  unfolding width_from
  widening-turn h k =
      let p = g.doubled in
      let b = g.below in
      let l : 2 ^ width < d = omega arith in
      let e : d - width ≡ suc (d - (width + 1)) = omega arith in
      let n = below-nine width (omega arith) in
      record {
        so_far = g.so_far ∙ rw (e, lt-leb d (2 ^ width) l);
        doubled = rw (add-one width, pow-suc) (omega arith);
        below = omega arith;
        small = omega arith;
      }

  pub widening-all : d ≤ power → (width ≡ width_of d) × (width ≤ 9)
  unfolding width_from
  widening-all h = (sym (g.so_far ∙ ended (d - width)), g.small)
    where
      ended : (more : ℕ) → width_from width more d ≡ width
      ended zero = refl
      ended (suc more) = let p = g.doubled in rw (le-leb d (2 ^ width) (omega arith))
