-- Document 01, "Samples as signed numbers".
use Rattle.std.specs.Prelude.{ℕ, ◌+◌, ◌-◌, ◌%◌, cond, ℤ, pos, negsuc, eqb, leb}
use Rattle.std.specs.Int.Bits.{bit_xor}

-- "law mask 55 (A) or 7F (mu)"
abbrev pub mask_of : ℕ → ℕ
mask_of law = cond (eqb law 0) 0x55 0x7F

-- "y is the sample xor mask, low 7 bits; it maps to y if the sample is 128 or more, else to -y - 1" (`negsuc y` is -y - 1)
unfoldable pub signed : ℕ → ℕ → ℤ
signed mask x = cond (leb 128 x) (pos (bit_xor x mask % 128)) (negsuc (bit_xor x mask % 128))

-- the sample of a signed number
unfoldable pub sample_of : ℕ → ℤ → ℕ
sample_of mask (pos y) = 128 + bit_xor y mask
sample_of mask (negsuc y) = bit_xor y mask

-- "plus zero is 0, minus zero is -1"
abbrev pub plus_zero : ℕ → ℕ
plus_zero mask = sample_of mask (pos 0)

abbrev pub minus_zero : ℕ → ℕ
minus_zero mask = sample_of mask (negsuc 0)

-- signed numbers in their order, -128 to 127, as 0 to 255: what is less, least, above and below goes by this
abbrev pub on_line : ℤ → ℕ
on_line (pos y) = 128 + y
on_line (negsuc y) = 127 - y
