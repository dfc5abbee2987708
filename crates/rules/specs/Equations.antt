-- 001, sections 7.11.2, 7.11.3 and 8.9: the digits of tool 11, and the values that they stand for. Each equation stands as 001 prints it,
-- under 001's names, in ℤ where a number can be below 0. R' is R', δ the flag δ₋₁, and n / m rounded down is `/`.
-- That they give table 7-28, and the digits that are read and written, is proved (proofs/Equations).
use Rattle.std.specs.Prelude.{ℕ, zero, suc, ◌+◌, ◌-◌, ◌*◌, ◌/◌, ◌^◌, List, [], ◌∷◌, ◌++◌, cond, eqb, get_or, ℤ, pos, neg_ℤ, ◌+ℤ◌, ◌-ℤ◌}
use Rattle.std.specs.Int.Signed.{lt_z, le_z}
use Rattle.rules.specs.Fractional.{values_at, radix, least_at, greatest_at}

-- X_min of row k, and its R, X_max - X_min + 1
abbrev pub X-min : ℕ → ℤ
X-min k = get_or (values_at k) 0 (pos 0)

abbrev pub range : ℕ → ℕ
range k = greatest_at k - least_at k + 1

-- 7.11.2, (7-74): R' = R - δ, so R and R' of the table tell δ. Of {0, 1} it is 0, where (7-75) would have 1: "the table decides"
abbrev pub flag_of : ℕ → ℕ
flag_of k = range k - radix k

-- 7.11.3, (7-77): l of the sample x
unfoldable pub l : ℤ → ℕ → ℤ → ℤ
l X δ x = cond (lt_z x (neg_ℤ (pos 1))) (x -ℤ X) (x -ℤ X -ℤ pos δ)

-- 8.9.1, R' = 2, (8-23): x of the bit b
unfoldable pub x-of-bit : ℤ → ℕ → ℕ → ℤ
x-of-bit X δ b = cond (eqb b 0) X (X +ℤ (pos 1 +ℤ pos δ))

-- 8.9.2, R' = 4, (8-24) and (8-25): x of the number d, and the adjustment by δ
abbrev pub adjusted : ℕ → ℤ → ℤ
adjusted δ x = cond (le_z (neg_ℤ (pos 1)) x) (x +ℤ pos δ) x

unfoldable pub x-of-number : ℤ → ℕ → ℕ → ℤ
x-of-number X δ d = adjusted δ (pos d +ℤ X)

-- 8.9.3, the other R', (8-26): from w(m) on, the coefficients l0 to lm. Of V they are those from w(4) = V on
unfoldable pub coefficients : ℕ → ℕ → ℕ → List ℕ
coefficients R' zero w = w ∷ []
coefficients R' (suc m) w = coefficients R' m (w - w / R' ^ suc m * R' ^ suc m) ++ (w / R' ^ suc m ∷ [])

-- (8-27) and (8-28): x of the coefficient l
unfoldable pub x-of-coefficient : ℤ → ℕ → ℕ → ℤ
x-of-coefficient X δ l = adjusted δ (pos l +ℤ X)

-- 8.9: "The way that x is decoded hangs on R'"
abbrev pub x-of : ℕ → ℤ → ℕ → ℕ → ℤ
x-of R' X δ d = cond (eqb R' 2) (x-of-bit X δ d) (cond (eqb R' 4) (x-of-number X δ d) (x-of-coefficient X δ d))
