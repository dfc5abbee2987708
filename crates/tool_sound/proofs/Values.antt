-- One value and its octets, as std reads and writes them: `value-read`, `value-written`.
use Prim.Native.Nat.{ℕ, suc, ◌+◌, ◌-◌, ◌*◌, ◌/◌, ◌%◌, ◌<◌}
use mathlib.Core.Path.{◌≡◌, refl, ap, ◌∙◌}
use mathlib.Core.Bool.{Bool, true, false, cond}
use mathlib.Core.List.{[], ◌∷◌}
use native.Mathlib.Omega.{arith}
use lib.Dec.{ltb}
use lib.IntN.{ℤ, pos, negsuc}
use lib.Signed.{mag}
use mir.Syntax.{w16}
use mir.Val.{to_z, of_z}
use borrow.Author.Tests.{ltb-true, ltb-false}
use Rattle.std.specs.Int.{from_le_bytes, to_le_bytes}
use Rattle.std.proofs.Math.Facts.{to_z_pos, to_z-neg}
use Rattle.tool_sound.specs.Masters.{value_of, low_of, high_of, Splits}

pub value-read : (low high : ℕ) → low < 256 → high < 256 → to_z w16 (from_le_bytes w16 (low ∷ high ∷ [])) ≡ value_of low high
unfolding value_of
value-read low high h k = go (ltb high 128) refl
  where
    go : (b : Bool) → ltb high 128 ≡ b
        → to_z w16 (from_le_bytes w16 (low ∷ high ∷ [])) ≡ cond b (pos (low + 256 * high)) (negsuc (255 - low + 256 * (255 - high)))
    go true e = let l = ltb-true high 128 e in to_z_pos w16 (omega arith) ∙ ap pos (omega arith)
    go false e =
        let l = ltb-false high 128 e in
        let n = 255 - low + 256 * (255 - high) in
        let z : from_le_bytes w16 (low ∷ high ∷ []) ≡ 65536 - suc n = omega arith in
        ap (to_z w16) z ∙ to_z-neg w16 n (omega arith)

pub value-written : (v : ℤ) → mag v < 32768 → Splits v (to_le_bytes w16 (of_z w16 v))
unfolding low_of high_of
value-written (pos n) h = let z : n / 256 % 256 ≡ n / 256 = omega arith in rw z refl
value-written (negsuc n) h =
    let low : (65536 - suc n) % 256 ≡ 255 - n % 256 = omega arith in
    let high : (65536 - suc n) / 256 % 256 ≡ 255 - n / 256 = omega arith in
    rw (low, high) refl
