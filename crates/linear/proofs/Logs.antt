-- ⌈log2 (k + 1)⌉ is the number of binary digits of k.
use Prim.Native.Nat.{ℕ, zero, suc, ◌+◌, ◌*◌, ◌^◌, ◌≤◌, ◌<◌}
use native.Mathlib.Nat.{pow-suc}
use native.Mathlib.Numerals.{add-one}
use mathlib.Core.Path.{◌≡◌, refl, sym, ◌∙◌, subst}
use mathlib.Core.Bool.{Bool, true, false, cond}
use native.Mathlib.Omega.{arith}
use lib.Dec.{leb}
use lib.Count.{count_leading_zeros, leading_length, leading_unique}
use borrow.Author.Tests.{leb-true, leb-false}
use Rattle.linear.specs.Equations.{least_from, ceil_log2}

pub record Digits (k e : ℕ) : Type 0 where
  pub above : k < 2 ^ e
  pub below : 2 ^ e ≤ 2 * k + 1

by-test : (P : ℕ → Type 0) (b : Bool) (x y : ℕ) → (b ≡ true → P x) → (b ≡ false → P y) → P (cond b x y)
by-test P true x y f g = f refl
by-test P false x y f g = g refl

least : (more k e : ℕ) → k < 2 ^ (e + more) → 2 ^ e ≤ 2 * k + 1 → Digits k (least_from more (k + 1) e)
unfolding least_from
least zero k e h g =
    let z : e + 0 ≡ e = omega arith in
    record { above = subst (λ (n : ℕ). k < 2 ^ n) z h; below = g }
least (suc more) k e h g =
    let z : e + suc more ≡ e + 1 + more = omega arith in
    by-test (Digits k) (leb (k + 1) (2 ^ e)) e (least_from more (k + 1) (e + 1))
    (λ t. let u = leb-true (k + 1) (2 ^ e) t in record { above = omega arith; below = g })
    (λ t. let u = leb-false (k + 1) (2 ^ e) t in
    least more k (e + 1) (subst (λ (n : ℕ). k < 2 ^ n) z h) (rw (add-one e, pow-suc 2 e) (omega arith)))

below_power : (n : ℕ) → n < 2 ^ n
below_power zero = omega arith
below_power (suc n) = let h = below_power n in rw (pow-suc 2 n) (omega arith)

pub ceil-digits : (k : ℕ) → Digits k (ceil_log2 (k + 1))
unfolding ceil_log2
ceil-digits k =
    let z : k + 1 ≡ 0 + (k + 1) = omega arith in
    let u = below_power (k + 1) in
    let h : k < 2 ^ (k + 1) = omega arith in
    least (k + 1) k 0 (subst (λ (n : ℕ). k < 2 ^ n) z h) (omega arith)

pub digits-unique : (k a b : ℕ) → Digits k a → Digits k b → a ≡ b
digits-unique k a b f g =
    leading_unique (a + b) k a b refl g.above g.below ∙ sym (leading_unique (a + b) k b a (omega arith) f.above f.below)

-- as the code counts them
pub leading-digits : (k : ℕ) → k < 2 ^ 32 → count_leading_zeros 32 k + ceil_log2 (k + 1) ≡ 32
leading-digits k h =
    let t = leading_length 32 k h in
    let e = digits-unique k t.0 (ceil_log2 (k + 1)) (record { above = t.2; below = t.3 }) (ceil-digits k) in
    let s = t.1 in
    omega arith
