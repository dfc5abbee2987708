-- 001's equations of tool 11 (specs/Equations) give table 7-28 and the digits that are read and written. Main statements:
--   digit-printed        (7-77): the digit of a row's value is its place among the values
--   value-printed        (8-23) to (8-25), (8-27), (8-28): the value of a digit
--   digits-printed       (8-26): the coefficients of V are its digits
--   flag-printed         (7-75): the flag, of every row but {0, 1}
--   digit-for, value-for the definitions over natural numbers say the same
use Prim.Native.Nat.{ℕ, zero, suc, ◌+◌, ◌-◌, ◌*◌, ◌/◌, ◌^◌, ◌<◌}
use mathlib.Core.Path.{◌≡◌, refl, sym, ap, ◌∙◌}
use mathlib.Core.List.{List, [], ◌∷◌, ◌++◌}
use mathlib.Core.Bool.{Bool, true, cond, not, ◌||◌}
use native.Mathlib.Omega.{arith}
use native.Mathlib.Nat.{mod-add-div, mod-lt, div-lt_iff_lt-mul, pow-zero, pow-suc, mul_comm, mul_assoc, mul-add}
use lib.ListN.{length, get_or, length-append}
use lib.Dec.{eqb, ltb}
use lib.IntN.{ℤ, pos, negsuc}
use borrow.Author.Tests.{eqb-true, lt-ltb}
use Rattle.rules.specs.Fractional.{values_at, radix, minus_at, low_at, below_at, digit_for, value_for, of_digits, digits_of}
use Rattle.rules.specs.Equations.{X-min, flag_of, l, x-of-bit, x-of-number, x-of-coefficient, x-of, coefficients}
use Rattle.rules.proofs.Octets.{Below, none, more, below-append}
use Rattle.rules.proofs.Tests.{implied, all_below, all_below-at}
use Rattle.rules.proofs.Fractional.{digits-back, radix-range}

-- the value at place d of row k
abbrev pub value_at : ℕ → ℕ → ℤ
value_at k d = get_or (values_at k) d (pos 0)

-- numbers in a test: the size, with the sign as its lowest bit
abbrev key : ℤ → ℕ
key (pos n) = 2 * n
key (negsuc n) = 2 * n + 1

key-told : (a b : ℤ) → key a ≡ key b → a ≡ b
key-told (pos a) (pos b) e = ap pos (omega arith)
key-told (pos a) (negsuc b) e = absurd (omega arith)
key-told (negsuc a) (pos b) e = absurd (omega arith)
key-told (negsuc a) (negsuc b) e = ap negsuc (omega arith)

-- what is the same of every row and every place: one computed test
abbrev agree : (ℕ → ℕ → ℤ) → (ℕ → ℕ → ℤ) → ℕ → ℕ → Bool
agree f g k d = not (ltb d (radix k)) || eqb (key (f k d)) (key (g k d))

by-test : (f g : ℕ → ℕ → ℤ) → all_below (λ k. all_below (agree f g k) 6) 12 ≡ true → (k d : ℕ) → k < 12 → d < radix k → f k d ≡ g k d
by-test f g t k d h j =
    key-told (f k d) (g k d) (eqb-true _ _ (implied (ltb d (radix k)) (eqb (key (f k d)) (key (g k d)))
    (all_below-at (agree f g k) 6 (all_below-at (λ k. all_below (agree f g k) 6) 12 t k h) d (omega (arith, (radix-range k h).1)))
    (lt-ltb d (radix k) j)))

pub digit-printed : (k d : ℕ) → k < 12 → d < radix k → l (X-min k) (flag_of k) (value_at k d) ≡ pos d
unfolding values_at l
digit-printed = by-test (λ k d. l (X-min k) (flag_of k) (value_at k d)) (λ k d. pos d) refl

pub value-printed : (k d : ℕ) → k < 12 → d < radix k → x-of (radix k) (X-min k) (flag_of k) d ≡ value_at k d
unfolding values_at x-of-bit x-of-number x-of-coefficient
value-printed = by-test (λ k d. x-of (radix k) (X-min k) (flag_of k) d) value_at refl

pub flag-printed : (k : ℕ) → k < 11 → flag_of (suc k) ≡ cond (minus_at (suc k)) 0 1
unfolding values_at
flag-printed k h = eqb-true _ _ (all_below-at (λ k. eqb (flag_of (suc k)) (cond (minus_at (suc k)) 0 1)) 11 refl k h)

-- as the code has them, over natural numbers
pub digit-for : (k d : ℕ) → k < 12 → d < radix k
    → l (X-min k) (flag_of k) (value_at k d) ≡ pos (digit_for (low_at k) (below_at k) (value_at k d))
unfolding values_at l
digit-for = by-test (λ k d. l (X-min k) (flag_of k) (value_at k d)) (λ k d. pos (digit_for (low_at k) (below_at k) (value_at k d))) refl

pub value-for : (k d : ℕ) → k < 12 → d < radix k → x-of (radix k) (X-min k) (flag_of k) d ≡ value_for (low_at k) (below_at k) d
unfolding values_at x-of-bit x-of-number x-of-coefficient
value-for = by-test (λ k d. x-of (radix k) (X-min k) (flag_of k) d) (λ k d. value_for (low_at k) (below_at k) d) refl

-- (8-26): what is left of w is its remainder by the power, and the coefficient is below R'
record Parts (P w : ℕ) : Type 0 where
  pub rest : w - w / P * P < P
  pub sum : w - w / P * P + P * (w / P) ≡ w

parts : (P w : ℕ) → 0 < P → Parts P w
parts P w h =
    let e = mod-add-div w P in
    let f = mul_comm P (w / P) in
    record { rest = omega (arith, mod-lt w h, e, f); sum = omega (arith, e, f) }

power-some : (r m : ℕ) → 0 < r → 0 < r ^ m
power-some r zero h = rw (pow-zero r) (omega arith)
power-some r (suc m) h = rw (pow-suc r m) (positive (r ^ m) r (power-some r m h) h)
  where
    positive : (a b : ℕ) → 0 < a → 0 < b → 0 < a * b
    positive (suc a) (suc b) h k = omega arith
    positive zero b h k = absurd (omega arith)
    positive (suc a) zero h k = absurd (omega arith)

length-coefficients : (r m w : ℕ) → length (coefficients r m w) ≡ suc m
unfolding coefficients
length-coefficients r zero w = refl
length-coefficients r (suc m) w =
    length-append (coefficients r m (w - w / r ^ suc m * r ^ suc m)) (w / r ^ suc m ∷ [])
    ∙ omega (arith, length-coefficients r m (w - w / r ^ suc m * r ^ suc m))

coefficients-below : (r m w : ℕ) → 0 < r → w < r ^ suc m → Below r (coefficients r m w)
unfolding coefficients
coefficients-below r zero w h k =
    let e : w < 1 * r = rw (pow-suc r 0, pow-zero r) at k in let f : w < r = omega arith in more f none
coefficients-below r (suc m) w h k =
    let p = power-some r (suc m) h in
    let q = parts (r ^ suc m) w p in
    let top : w / r ^ suc m < r = (div-lt_iff_lt-mul p).1 (rw (mul_comm r (r ^ suc m)) (rw (pow-suc r (suc m)) at k)) in
    below-append (coefficients-below r m (w - w / r ^ suc m * r ^ suc m) h q.rest) (more top none)

-- one digit more, the highest
of_digits-last : (r d : ℕ) (ls : List ℕ) → of_digits r (ls ++ (d ∷ [])) ≡ of_digits r ls + r ^ length ls * d
unfolding of_digits
of_digits-last r d [] = rw (pow-zero r) (omega arith)
of_digits-last r d (x ∷ ls) =
    let e : r * (of_digits r ls + r ^ length ls * d) ≡ r * of_digits r ls + r * (r ^ length ls * d) = mul-add r (of_digits r ls) (r ^ length ls * d) in
    let f : r * (r ^ length ls * d) ≡ r ^ suc (length ls) * d =
    sym (mul_assoc r (r ^ length ls) d) ∙ ap (λ (n : ℕ). n * d) (mul_comm r (r ^ length ls) ∙ sym (pow-suc r (length ls))) in
    rw (of_digits-last r d ls, e, f) (omega arith)

coefficients-sum : (r m w : ℕ) → 0 < r → of_digits r (coefficients r m w) ≡ w
unfolding coefficients of_digits
coefficients-sum r zero w h = omega arith
coefficients-sum r (suc m) w h =
    let P = r ^ suc m in
    let low = w - w / P * P in
    of_digits-last r (w / P) (coefficients r m low)
    ∙ rw (coefficients-sum r m low h, length-coefficients r m low) (parts P w (power-some r (suc m) h)).sum

pub digits-printed : (r m w : ℕ) → 0 < r → w < r ^ suc m → coefficients r m w ≡ digits_of r (suc m) w
digits-printed r m w h k =
    sym (digits-back h (coefficients-below r m w h k))
    ∙ rw (length-coefficients r m w, coefficients-sum r m w h) refl
