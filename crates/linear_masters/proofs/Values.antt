-- One value and one sample, in the code's expressions: `shifted` (on the way in), `raised` (on the way out). No value leaves 16 bits.
use Prim.Native.Nat.{ℕ, zero, suc, ◌*◌, ◌≤◌, ◌<◌}
use mathlib.Core.Path.{◌≡◌, refl, ap, ◌∙◌}
use mathlib.Core.Bool.{Bool, true, false, cond}
use native.Mathlib.Omega.{arith}
use lib.Dec.{eqb, ltb}
use lib.IntN.{ℤ, pos, negsuc, neg_ℤ, nat_abs, ◌*ℤ◌}
use lib.Signed.{mag, shr_z, mag_shr}
use mir.Syntax.{w16}
use mir.Val.{SFits, to_z, of_z}
use mir.Facts.{to_z-of_z}
use borrow.Author.Tests.{eq-eqb, ne_eqb, ltb-true}
use Rattle.rules.proofs.Tests.{all_below-at}
use Rattle.linear.specs.Equations.{A→PCM, μ→PCM, to_pcm}
use Rattle.linear_masters.specs.Masters.{unit_of, value_for}

pub unit-a : (law : ℕ) → law ≡ 0 → 8 ≡ unit_of law
unit-a law e = rw (eq-eqb law 0 e)

pub unit-mu : (law : ℕ) → (law ≡ 0 → ⊥) → 4 ≡ unit_of law
unit-mu law n = rw (ne_eqb law 0 n)

-- a shift
pub shifted : (law : ℕ) {v : ℤ} {k : ℕ} → SFits w16 v → k ≡ unit_of law
    → to_z w16 (of_z w16 (shr_z (to_z w16 (of_z w16 v)) k)) ≡ shr_z v (unit_of law)
shifted law {v} {k} f e =
    ap (λ (z : ℤ). to_z w16 (of_z w16 (shr_z z k))) (to_z-of_z f)
    ∙ to_z-of_z {w = w16} (record { sfits = omega (arith, mag_shr v k, f.sfits) }) ∙ ap (shr_z v) e

-- no linear value leaves 16 bits
a-loud : (o : ℕ) → o < 256 → nat_abs (A→PCM o) * 8 < 32768
unfolding A→PCM
a-loud o h = ltb-true _ _ (all_below-at (λ o. ltb (nat_abs (A→PCM o) * 8) 32768) 256 refl o h)

mu-loud : (o : ℕ) → o < 256 → nat_abs (μ→PCM o) * 4 < 32768
unfolding μ→PCM
mu-loud o h = ltb-true _ _ (all_below-at (λ o. ltb (nat_abs (μ→PCM o) * 4) 32768) 256 refl o h)

loud : (law o : ℕ) → o < 256 → nat_abs (to_pcm law o) * unit_of law < 32768
loud law o h = go (eqb law 0)
  where
    go : (b : Bool) → nat_abs (cond b (A→PCM o) (μ→PCM o)) * cond b 8 4 < 32768
    go true = a-loud o h
    go false = mu-loud o h

mag-neg : (n : ℕ) → mag (neg_ℤ (pos n)) ≤ n
mag-neg zero = omega arith
mag-neg (suc n) = omega arith

mag-product : (v : ℤ) (k : ℕ) → mag (v *ℤ pos k) ≤ nat_abs v * k
mag-product (pos a) k = omega arith
mag-product (negsuc a) k = mag-neg (suc a * k)

pub mag-value : (law o : ℕ) → o < 256 → mag (value_for law o) < 32768
mag-value law o h = omega (arith, mag-product (to_pcm law o) (unit_of law), loud law o h)

-- a linear value in 16 bits again
pub record Raised (law o : ℕ) (z : ℤ) : Type 0 where
  pub fits : SFits w16 z
  pub is : to_z w16 (of_z w16 z) ≡ value_for law o

pub raised : (law o : ℕ) {r : ℤ} {k : ℕ} → SFits w16 r → r ≡ to_pcm law o → k ≡ unit_of law → o < 256
    → Raised law o (to_z w16 (of_z w16 r) *ℤ pos k)
raised law o {r} {k} f e g h =
    let z : to_z w16 (of_z w16 r) *ℤ pos k ≡ value_for law o = ap (λ (v : ℤ). v *ℤ pos k) (to_z-of_z f ∙ e)
    ∙ ap (λ (n : ℕ). to_pcm law o *ℤ pos n) g in
    let t : SFits w16 (value_for law o) = record { sfits = mag-value law o h } in
    rw z (record { fits = t; is = to_z-of_z t })
