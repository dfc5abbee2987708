-- The leading zeros of a number, and its bits: those before the first one are 0, and the next is 1 (lead_zero, lead-one).
use Prim.Native.Nat.{ℕ, suc, ◌+◌, ◌*◌, ◌-◌, ◌^◌, ◌/◌, ◌%◌, ◌≤◌, ◌<◌}
use mathlib.Core.Path.{◌≡◌}
use native.Mathlib.Omega.{arith}
use native.Mathlib.Nat.{div-eq_of_lt, le-div_iff_mul-le, pow-suc}
use lib.Count.{count_leading_zeros, leading_length, leading_le}
use lib.Pow.{pow_mono, pow_pos, shr_lt}

-- w has m bits, and z of them are zeros before its first one, if it has any
pub record Lead (m w z : ℕ) : Type 0 where
  pub below : w < 2 ^ (m - z)
  pub most : z ≤ m
  pub above : z < m → 2 ^ (m - suc z) ≤ w

pub lead : (m w : ℕ) → w < 2 ^ m → Lead m w (count_leading_zeros m w)
lead m w h =
    let t = leading_length m w h in
    let z = count_leading_zeros m w in
    let e : t.0 ≡ m - z = omega (arith, t.1) in
    record {
      below = rw (← e) t.2;
      most = leading_le m w;
      above = λ l.
          let f : t.0 ≡ suc (m - suc z) = omega (arith, t.1) in
          let g : 2 ^ t.0 ≡ 2 ^ (m - suc z) * 2 = rw (f, pow-suc) in
          omega (arith, t.3);
    }

module _ {m w z : ℕ} (l : Lead m w z) where
  pub lead_zero : (k : ℕ) → k < z → w / 2 ^ (m - suc k) % 2 ≡ 0
  lead_zero k h =
      let p : 2 ^ (m - z) ≤ 2 ^ (m - suc k) = pow_mono (omega (arith, l.most)) in
      let b = l.below in
      rw (div-eq_of_lt {n = w} {m = 2 ^ (m - suc k)} (omega arith))

  pub lead-one : z < m → w / 2 ^ (m - suc z) % 2 ≡ 1
  lead-one h =
      let e : m - z ≡ 1 + (m - suc z) = omega arith in
      let b : w / 2 ^ (m - suc z) < 2 ^ 1 = shr_lt 1 (m - suc z) (rw e at l.below) in
      let a : 1 ≤ w / 2 ^ (m - suc z) = (le-div_iff_mul-le (pow_pos (m - suc z))).1 (omega (arith, l.above h)) in
      omega arith
