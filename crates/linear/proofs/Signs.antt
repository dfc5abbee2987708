-- Signed numbers of any width as the code has them: `x < 0`, `-1 - x`, `0 - v`.
use Prim.Native.Nat.{ℕ, zero, suc, ◌<◌, ◌^◌}
use mathlib.Core.Path.{◌≡◌, refl, sym, ap, ◌∙◌}
use mathlib.Core.Bool.{true, false}
use lib.IntN.{ℤ, pos, negsuc, neg_ℤ, nat_abs, ◌-ℤ◌, +ℤ_idl}
use lib.Signed.{lt_z, mag}
use mir.Syntax.{Width}
use mir.Val.{SFits, to_z, of_z, hbits}
use mir.Facts.{to_z-of_z, to_z_pos}
use borrow.Author.Tests.{ltb-true}
use native.Mathlib.Omega.{arith}
use Rattle.rules.proofs.Signed.{turned-pos, turned-neg}

-- v is -y - 1, and turned it is y
pub record Below (w : Width) (v : ℤ) : Type 0 where
  pub y : ℕ
  pub is : v ≡ negsuc y
  pub turned : negsuc 0 -ℤ to_z w (of_z w v) ≡ pos y
  pub bits : to_z w (of_z w (negsuc 0 -ℤ to_z w (of_z w v))) ≡ pos y
  pub small : y < 2 ^ hbits w

pub below : {w : Width} {v : ℤ} → SFits w v → lt_z (to_z w (of_z w v)) (pos 0) ≡ true → Below w v
below {w} {v} f t = go v f (ap (λ (z : ℤ). lt_z z (pos 0)) (sym (to_z-of_z f)) ∙ t)
  where
    go : (v : ℤ) → SFits w v → lt_z v (pos 0) ≡ true → Below w v
    go (pos n) f t = absurd (omega (arith, ltb-true n 0 t))
    go (negsuc y) f t =
        let e = ap (λ (z : ℤ). negsuc 0 -ℤ z) (to_z-of_z f) ∙ turned-neg y in
        record { y = y; is = refl; turned = e; bits = rw e (to_z_pos w f.sfits); small = f.sfits }

-- as a number without a sign it is the size
pub size_below : {w : Width} {v : ℤ} → Below w v → nat_abs (to_z w (of_z w (negsuc 0 -ℤ to_z w (of_z w v)))) ≡ mag v
size_below b = ap nat_abs b.bits ∙ sym (ap mag b.is)

-- v is y
pub record Above (w : Width) (v : ℤ) : Type 0 where
  pub y : ℕ
  pub is : v ≡ pos y
  pub bits : to_z w (of_z w v) ≡ pos y
  pub small : y < 2 ^ hbits w

pub above : {w : Width} {v : ℤ} → SFits w v → lt_z (to_z w (of_z w v)) (pos 0) ≡ false → Above w v
above {w} {v} f t = go v f (ap (λ (z : ℤ). lt_z z (pos 0)) (sym (to_z-of_z f)) ∙ t)
  where
    go : (v : ℤ) → SFits w v → lt_z v (pos 0) ≡ false → Above w v
    go (pos y) f t = record { y = y; is = refl; bits = to_z-of_z f; small = f.sfits }
    go (negsuc n) f t = absurd (let z : ◌≡◌ {A = ℕ} 0 1 = cc in omega arith)

pub size_above : {w : Width} {v : ℤ} → Above w v → nat_abs (to_z w (of_z w v)) ≡ mag v
size_above a = ap nat_abs a.bits ∙ sym (ap mag a.is)

-- 0 - v, for v of the lower half
pub record Minus (w : Width) (v : ℕ) : Type 0 where
  pub fits : SFits w (pos 0 -ℤ to_z w v)
  pub is : to_z w (of_z w (pos 0 -ℤ to_z w v)) ≡ neg_ℤ (pos v)

neg-fits : (w : Width) (v : ℕ) → v < 2 ^ hbits w → SFits w (neg_ℤ (pos v))
neg-fits w zero h = record { sfits = h }
neg-fits w (suc v) h = record { sfits = omega arith }

pub minus : (w : Width) (v : ℕ) → v < 2 ^ hbits w → Minus w v
minus w v h =
    let e : pos 0 -ℤ to_z w v ≡ neg_ℤ (pos v) = ap (λ (z : ℤ). pos 0 -ℤ z) (to_z_pos w h) ∙ +ℤ_idl (neg_ℤ (pos v)) in
    let f = neg-fits w v h in
    record { fits = rw e f; is = rw e (to_z-of_z f) }

-- -1 - v, for v of the lower half
pub record Turned (w : Width) (v : ℕ) : Type 0 where
  pub fits : SFits w (negsuc 0 -ℤ to_z w v)
  pub is : to_z w (of_z w (negsuc 0 -ℤ to_z w v)) ≡ negsuc v

pub turned : (w : Width) (v : ℕ) → v < 2 ^ hbits w → Turned w v
turned w v h =
    let e : negsuc 0 -ℤ to_z w v ≡ negsuc v = ap (λ (z : ℤ). negsuc 0 -ℤ z) (to_z_pos w h) ∙ turned-pos v in
    let f : SFits w (negsuc v) = record { sfits = h } in
    record { fits = rw e f; is = rw e (to_z-of_z f) }
