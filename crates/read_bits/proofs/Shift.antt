-- Shifts by at most 32 places of a one, and by at most 9 of a quotient, lose nothing.
use Prim.Native.Nat.{ℕ, ◌+◌, ◌*◌, ◌-◌, ◌^◌, ◌%◌, ◌≤◌}
use mathlib.Core.Path.{◌≡◌}
use native.Mathlib.Omega.{arith}
use native.Mathlib.Nat.{mul-le-mul, mod-eq_of_lt, mod-lt}
use lib.Pow.{pow_mono, pow_pos}

pub power_small : (s : ℕ) → s ≤ 9 → 2 ^ s ≤ 512
power_small s m = pow_mono {j = 9} m

pub power-whole : (n : ℕ) → n ≤ 32 → 1 * 2 ^ n % 2 ^ 64 ≡ 2 ^ n
power-whole n m = let b : 2 ^ n ≤ 2 ^ 32 = pow_mono {j = 32} m in let e : 1 * 2 ^ n ≡ 2 ^ n = omega arith in
    rw e (mod-eq_of_lt (omega arith))

pub low_small : (v n : ℕ) → v % 2 ^ n ≤ 2 ^ n - 1
low_small v n = omega (arith, mod-lt v (pow_pos n))

-- a quotient and the low bits below it
pub record FitsRice (k low s : ℕ) : Type 0 where
  pub whole : k * 2 ^ s % 2 ^ 64 ≡ k * 2 ^ s
  pub small : k * 2 ^ s + low ≤ 200000

pub fits-rice : {k n low : ℕ} (s : ℕ) → k ≤ n → low ≤ 2 ^ s - 1 → n ≤ 320 → s ≤ 9 → FitsRice k low s
fits-rice {k} {n} {low} s h l b m =
    let p = power_small s m in
    let j : k ≤ 320 = omega arith in
    let q : k * 2 ^ s ≤ 320 * 512 = mul-le-mul j p in
    record { whole = mod-eq_of_lt (omega arith); small = omega arith }
