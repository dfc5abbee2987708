-- `-1 - v`, which takes y to -y - 1 and -y - 1 to y, and the sign of a number of 8 bits, as the code has them.
use Prim.Native.Nat.{ℕ, ◌<◌}
use mathlib.Core.Path.{◌≡◌, refl, sym, ap, ◌∙◌}
use mathlib.Core.Bool.{true, false}
use lib.IntN.{ℤ, pos, negsuc, ◌-ℤ◌}
use lib.Signed.{lt_z}
use mir.Syntax.{w8}
use mir.Val.{SFits, to_z, of_z}
use mir.Facts.{to_z-of_z, to_z_pos}
use borrow.Author.Tests.{ltb-true}
use native.Mathlib.Omega.{arith}
use Rattle.rules.proofs.Signed.{turned-neg}

-- v is -y - 1, and turned it is y
pub record Below (v : ℤ) : Type 0 where
  pub y : ℕ
  pub is : v ≡ negsuc y
  pub turned : negsuc 0 -ℤ to_z w8 (of_z w8 v) ≡ pos y
  pub bits : to_z w8 (of_z w8 (negsuc 0 -ℤ to_z w8 (of_z w8 v))) ≡ pos y
  pub small : y < 128

pub below : (v : ℤ) → SFits w8 v → lt_z (to_z w8 (of_z w8 v)) (pos 0) ≡ true → Below v
below v f t = go v f (ap (λ (z : ℤ). lt_z z (pos 0)) (sym (to_z-of_z f)) ∙ t)
  where
    go : (v : ℤ) → SFits w8 v → lt_z v (pos 0) ≡ true → Below v
    go (pos n) f t = absurd (omega (arith, ltb-true n 0 t))
    go (negsuc y) f t =
        let e = ap (λ (z : ℤ). negsuc 0 -ℤ z) (to_z-of_z f) ∙ turned-neg y in
        record { y = y; is = refl; turned = e; bits = rw e (to_z_pos w8 f.sfits); small = f.sfits }

-- v is y
pub record Above (v : ℤ) : Type 0 where
  pub y : ℕ
  pub is : v ≡ pos y
  pub bits : to_z w8 (of_z w8 v) ≡ pos y
  pub small : y < 128

pub above : (v : ℤ) → SFits w8 v → lt_z (to_z w8 (of_z w8 v)) (pos 0) ≡ false → Above v
above v f t = go v f (ap (λ (z : ℤ). lt_z z (pos 0)) (sym (to_z-of_z f)) ∙ t)
  where
    go : (v : ℤ) → SFits w8 v → lt_z v (pos 0) ≡ false → Above v
    go (pos y) f t = record { y = y; is = refl; bits = to_z-of_z f; small = f.sfits }
    go (negsuc n) f t = absurd (let z : ◌≡◌ {A = ℕ} 0 1 = cc in omega arith)
