-- Equations (6-2) and (6-4), (6-6) and (6-8) once for both laws, over the constants in which they differ.
-- proofs/Paper shows that they are 001's own; the code and every promise go by these.
use Rattle.std.specs.Prelude.{ℕ, ◌+◌, ◌-◌, ◌*◌, ◌/◌, ◌%◌, ◌^◌, min, cond, eqb, ℤ, pos, negsuc, neg_ℤ}
use Rattle.rules.specs.Samples.{signed, sample_of}
use Rattle.linear.specs.declared.Constants.{Constants}
use Rattle.linear.specs.Equations.{e_of}

-- the mask; the bias, "33"; the clip, "4095" and "8191"; and what is taken off a code, 2^4 where (6-8) has "2^4 (e - 1)"
abbrev pub constants_a : Constants
constants_a = record { mask = 0x55; bias = 0; top = 4095; step = 0 }

abbrev pub constants_mu : Constants
constants_mu = record { mask = 0x7F; bias = 33; top = 8191; step = 16 }

abbrev pub constants_of : ℕ → Constants
constants_of law = cond (eqb law 0) constants_a constants_mu

-- m. For x < 0, with x = -n - 1, `-max {x - bias, -top - 1} - 1` is `min {n + bias, top}` too, so the size n = mag x serves both signs.
unfoldable pub m_of : Constants → ℕ → ℕ
m_of l n = min (n + l.bias) l.top

-- 2^4 e + ⌊m / 2^(e+1)⌋, before `step` is taken off
unfoldable pub code_of : ℕ → ℕ
code_of m = 16 * e_of m + m / 2 ^ (e_of m + 1)

-- the signed number (document 01) of the octet
unfoldable pub shrink : Constants → ℤ → ℤ
shrink l (pos n) = pos (code_of (m_of l n) - l.step)
shrink l (negsuc n) = negsuc (code_of (m_of l n) - l.step)

unfoldable pub octet_of : Constants → ℤ → ℕ
octet_of l x = sample_of l.mask (shrink l x)

-- (6-2) and (6-4) of a code, the bias still in it
unfoldable pub level_of : ℕ → ℕ
level_of c = cond (eqb (c / 16) 0) (2 * (c % 16) + 1) (2 ^ (c / 16 - 1) * (2 * (c % 16) + 33))

unfoldable pub grow : Constants → ℤ → ℤ
grow l (pos y) = pos (level_of (y + l.step) - l.bias)
grow l (negsuc y) = neg_ℤ (pos (level_of (y + l.step) - l.bias))

unfoldable pub linear_of : Constants → ℕ → ℤ
linear_of l o = grow l (signed l.mask o)
