-- 001, section 6.8.1 and 6.8.2: samples to linear PCM and back. Each equation stands as 001 prints it, under 001's names,
-- in ℤ where a number can be below 0.
-- ⊕ is `bit_xor`, ⊗ is `bit_and`, n / 2^k rounded down is `/`.
use Rattle.std.specs.Prelude.{ℕ, zero, suc, ◌+◌, ◌-◌, ◌*◌, ◌/◌, ◌^◌, cond, eqb, leb, ltb, ℤ, pos, neg_ℤ, nat_abs, ◌+ℤ◌, ◌-ℤ◌, ◌*ℤ◌}
use Rattle.std.specs.Int.Bits.{bit_xor, bit_and}
use Rattle.std.specs.Int.Signed.{le_z, non_neg}

-- v where the polarity s is 0x80, -v where it is 0
abbrev pub polar : ℕ → ℕ → ℤ
polar s v = cond (eqb s 0x80) (pos v) (neg_ℤ (pos v))

-- 6.8.1.1, (6-1) and (6-2)
unfoldable pub A→PCM : ℕ → ℤ
A→PCM x =
    let s = bit_and x 0x80 in
    let y = bit_and (bit_xor x 0x55) 0x7F in
    let e = y / 2 ^ 4 in
    let m = bit_and y 0x0F in
    cond (ltb 0 e) (polar s (2 ^ (e - 1) * (2 ^ 4 * m + 8 + 256) / 8)) (polar s ((2 ^ 4 * m + 8) / 8))

-- 6.8.1.2, (6-3) and (6-4)
unfoldable pub μ→PCM : ℕ → ℤ
μ→PCM x =
    let s = bit_and x 0x80 in
    let y = bit_and (bit_xor x 0x7F) 0x7F in
    let e = y / 2 ^ 4 in
    let m = bit_and y 0x0F in
    polar s ((2 ^ e * (2 ^ 3 * m + 128 + 4) - 132) / 4)

abbrev pub min_z : ℤ → ℤ → ℤ
min_z a b = cond (le_z a b) a b

abbrev pub max_z : ℤ → ℤ → ℤ
max_z a b = cond (le_z a b) b a

-- ⌈log2 n⌉: the least e, from this one on, with n ≤ 2^e
unfoldable pub least_from : ℕ → ℕ → ℕ → ℕ
least_from zero n e = e
least_from (suc more) n e = cond (leb n (2 ^ e)) e (least_from more n (e + 1))

unfoldable pub ceil_log2 : ℕ → ℕ
ceil_log2 n = least_from n n 0

-- e of (6-6) and (6-8). "right only if m / 64 is rounded down before 1 is added and the logarithm taken; that reading decides"
unfoldable pub e_of : ℕ → ℕ
e_of m = ceil_log2 (m / 2 ^ 6 + 1)

-- 6.8.2.1, (6-5) and (6-6): m, y and x. m and what y is made of are never below 0, so `nat_abs` only takes them as numbers.
abbrev pub m-A : ℤ → ℕ
m-A x = nat_abs (cond (non_neg x) (min_z x (pos 4095)) (neg_ℤ (max_z x (neg_ℤ (pos 4096))) -ℤ pos 1))

abbrev pub y-A : ℕ → ℕ
y-A m = bit_xor (nat_abs (pos (2 ^ 4) *ℤ pos (e_of m) +ℤ pos (m / 2 ^ (e_of m + 1)))) 0x55

unfoldable pub PCM→A : ℤ → ℕ
PCM→A x = cond (non_neg x) (bit_xor (y-A (m-A x)) 0x80) (y-A (m-A x))

-- 6.8.2.2, (6-7) and (6-8)
abbrev pub m-μ : ℤ → ℕ
m-μ x = nat_abs (cond (non_neg x) (min_z (x +ℤ pos 33) (pos 8191)) (neg_ℤ (max_z (x -ℤ pos 33) (neg_ℤ (pos 8192))) -ℤ pos 1))

abbrev pub y-μ : ℕ → ℕ
y-μ m = bit_xor (nat_abs (pos (2 ^ 4) *ℤ (pos (e_of m) -ℤ pos 1) +ℤ pos (m / 2 ^ (e_of m + 1)))) 0x7F

unfoldable pub PCM→μ : ℤ → ℕ
PCM→μ x = cond (non_neg x) (bit_xor (y-μ (m-μ x)) 0x80) (y-μ (m-μ x))

-- by the law's number
abbrev pub to_pcm : ℕ → ℕ → ℤ
to_pcm law x = cond (eqb law 0) (A→PCM x) (μ→PCM x)

abbrev pub from_pcm : ℕ → ℤ → ℕ
from_pcm law x = cond (eqb law 0) (PCM→A x) (PCM→μ x)

-- m and e "as in those equations", of a linear value
abbrev pub m_for : ℕ → ℤ → ℕ
m_for law x = cond (eqb law 0) (m-A x) (m-μ x)

abbrev pub e_for : ℕ → ℤ → ℕ
e_for law x = e_of (m_for law x)
