-- Laws of the bits of a word: cut in two, and put together.
use Prim.Native.Nat.{ℕ, zero, suc, ◌+◌, ◌*◌, ◌^◌, ◌/◌, ◌%◌, ◌<◌}
use mathlib.Core.Path.{◌≡◌, refl, sym, ap, ◌∙◌}
use mathlib.Core.List.{◌++◌}
use native.Mathlib.Omega.{arith}
use native.Mathlib.Numerals.{add-one}
use native.Mathlib.Nat.{zero-add, suc-add}
use lib.Pow.{shr-shr, field, mod-mod-pow, high, low}
use Rattle.rules.specs.Bits.{low_bits}

-- the upper a bits, and then the lower k
pub low_bits-split : (a k w : ℕ) → low_bits (a + k) w ≡ low_bits a (w / 2 ^ k) ++ low_bits k w
unfolding low_bits
low_bits-split zero k w = rw zero-add
low_bits-split (suc a) k w =
    let e : w / 2 ^ k / 2 ^ a ≡ w / 2 ^ (a + k) = shr-shr w k a ∙ ap (λ (i : ℕ). w / 2 ^ i) (omega arith) in
    rw (suc-add, e, low_bits-split a k w)

-- bits above are not asked for
pub low_bits-mod : (k j w : ℕ) → low_bits k (w % 2 ^ (j + k)) ≡ low_bits k w
unfolding low_bits
low_bits-mod zero j w = refl
low_bits-mod (suc k) j w =
    let e : j + suc k ≡ suc j + k = omega arith in
    let m : w / 2 ^ k % 2 ^ suc j % 2 ≡ w / 2 ^ k % 2 = rw add-one at (mod-mod-pow (w / 2 ^ k) j 1) in
    rw (e, field w (suc j) k, low_bits-mod k (suc j) w, m)

-- v put behind the k low bits of w
pub low_bits-join : (k n w v : ℕ) → v < 2 ^ n → low_bits (k + n) (w * 2 ^ n + v) ≡ low_bits k w ++ low_bits n v
low_bits-join k n w v h =
    let e : low_bits n (w * 2 ^ n + v) ≡ low_bits n v = sym (low_bits-mod n 0 (w * 2 ^ n + v)) ∙ rw (zero-add, low w n h) in
    rw (low_bits-split k n, high w n h, e)
