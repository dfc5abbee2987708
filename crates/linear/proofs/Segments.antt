-- The level of a code is the middle of its cell, in every segment.
use Prim.Native.Nat.{ℕ, zero, suc, ◌+◌, ◌-◌, ◌*◌, ◌/◌, ◌%◌, ◌^◌, ◌≤◌, ◌<◌}
use native.Mathlib.Nat.{pow-suc, mod-lt, div-add-mod, div-lt_iff_lt-mul, le-div_iff_mul-le}
use native.Mathlib.Numerals.{add-one}
use mathlib.Core.Path.{◌≡◌, refl, sym, ap, ◌∙◌}
use native.Mathlib.Omega.{arith}
use native.Mathlib.Decide.{ℕ_discrete}
use lib.Pow.{pow_pos}
use borrow.Author.Tests.{eq-eqb, ne_eqb}
use Rattle.linear.specs.Equations.{e_of}
use Rattle.linear.specs.Constants.{level_of, code_of}
use Rattle.linear.proofs.Logs.{Digits, ceil-digits}

pub level-low : (q : ℕ) → q < 16 → level_of q ≡ 2 * q + 1
unfolding level_of
level-low q h =
    let a : q % 16 ≡ q = omega arith in
    rw (eq-eqb (q / 16) 0 (omega arith), a)

pub level-high : (e q : ℕ) → 16 ≤ q → q < 32 → level_of (16 * e + q) ≡ 2 ^ e * (2 * q + 1)
unfolding level_of
level-high e q h g =
    let a : (16 * e + q) / 16 ≡ e + 1 = omega arith in
    let b : (16 * e + q) % 16 ≡ q - 16 = omega arith in
    let d : e + 1 - 1 ≡ e = omega arith in
    let k : 2 * (q - 16) + 33 ≡ 2 * q + 1 = omega arith in
    rw (a, b, ne_eqb (e + 1) 0 (λ z. omega arith), d, k)

pub e-digits : (m : ℕ) → Digits (m / 64) (e_of m)
unfolding e_of
e-digits m = ceil-digits (m / 64)

-- m in its segment: m = q 2^(e+1) + r
pub record Cell (m e q : ℕ) : Type 0 where
  pub r : ℕ
  pub is : m ≡ 2 * (2 ^ e * q) + r
  pub within : r < 2 * 2 ^ e
  pub less : q < 32
  pub high : (e ≡ 0 → ⊥) → 16 ≤ q

high-in : (m e : ℕ) → Digits (m / 64) e → (e ≡ 0 → ⊥) → 32 * 2 ^ e ≤ m
high-in m zero d g = absurd (g refl)
high-in m (suc j) d g = let b = rw (pow-suc 2 j) at d.below in rw (pow-suc 2 j) (omega arith)

pub cell : (m e : ℕ) → Digits (m / 64) e → Cell m e (m / 2 ^ (e + 1))
cell m e d =
    let p : 2 ^ (e + 1) ≡ 2 ^ e * 2 = ap (λ (n : ℕ). 2 ^ n) (add-one e) ∙ pow-suc 2 e in
    let a = d.above in
    let z : 0 < 2 ^ e * 2 = omega (arith, pow_pos e) in
    rw p (record {
      r = m % (2 ^ e * 2);
      is = sym (div-add-mod m (2 ^ e * 2)) ∙ omega arith;
      within = omega (arith, mod-lt m z);
      less = (div-lt_iff_lt-mul z).1 (omega arith);
      high = λ g. (le-div_iff_mul-le z).1 (omega (arith, high-in m e d g));
    })

-- the level of m's code: the middle of its cell
pub level-middle : (m e q : ℕ) → Cell m e q → level_of (16 * e + q) ≡ 2 * (2 ^ e * q) + 2 ^ e
level-middle m zero q t = low (ℕ_discrete (q / 16) 0)
  where
    low : Dec (q / 16 ≡ 0) → level_of (16 * 0 + q) ≡ 2 * (2 ^ 0 * q) + 2 ^ 0
    low (yes h) = ap level_of (omega arith) ∙ level-low q (omega arith) ∙ omega arith
    low (no h) = level-high 0 q (omega arith) t.less ∙ omega arith
level-middle m (suc j) q t =
    level-high (suc j) q (t.high (λ z. omega arith)) t.less ∙ omega arith

-- the given m and m + 1 are at most 2^e away
pub record Close (m level e : ℕ) : Type 0 where
  pub above : level ≤ m + 2 ^ e
  pub below : m + 1 ≤ level + 2 ^ e

pub level-close : (m : ℕ) → Close m (level_of (code_of m)) (e_of m)
unfolding code_of
level-close m =
    let t = cell m (e_of m) (e-digits m) in
    let l = level-middle m (e_of m) (m / 2 ^ (e_of m + 1)) t in
    let i = t.is in
    let w = t.within in
    record { above = omega arith; below = omega arith }
