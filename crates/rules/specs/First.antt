-- Document 01, "First octet": the map from first octet to tool and length (001, tables 7-1, 7-2, 7-3; for 02 to 1F table 7-28, where it
-- tells the row too).
use Rattle.std.specs.Prelude.{ℕ, ◌+◌, ◌-◌, ◌/◌, List, [], ◌∷◌, ◌++◌, Bool, cond, ◌&&◌, eqb, leb}
use Rattle.rules.specs.Bits.{low_bits}
use Rattle.rules.specs.Reading.{Reader, ◌>>=◌, give, bit}

pub data First : Type 0 where
  unassigned pad : First
  tool : ℕ → ℕ → First
  fractional_row : ℕ → ℕ → First
  six_or_eight : ℕ → First

-- the octets from `low` to `high`, and what each of them begins
pub record Row : Type 0 where
  pub low : ℕ
  pub high : ℕ
  pub begins : ℕ → First

abbrev row : ℕ → ℕ → First → Row
row low high first = record { low = low; high = high; begins = λ o. first }

-- five octets that are tools 1 to 5
abbrev one_to_five : ℕ → ℕ → Row
one_to_five low n = record { low = low; high = low + 4; begins = λ o. tool (o - low + 1) n }

-- octets that are tool 11's, a row each, from row 0 on
abbrev elevens : ℕ → ℕ → ℕ → Row
elevens low high n = record { low = low; high = high; begins = λ o. fractional_row (o - low) n }

-- "20 uncompressed, .. 2C to 2F tool 9. 320 samples: the same with 3 for 2."
abbrev long_rows : ℕ → ℕ → List Row
long_rows base n =
    one_to_five base n
    ∷ row (base + 5) (base + 5) (tool 7 n)
    ∷ row (base + 6) (base + 7) (tool 10 n)
    ∷ row (base + 8) (base + 11) (six_or_eight n)
    ∷ row (base + 12) (base + 15) (tool 9 n)
    ∷ []

unfoldable pub rows : List Row
rows =
    row 0x00 0x00 pad
    ∷ elevens 0x02 0x0D 40
    ∷ elevens 0x0E 0x13 80
    ∷ elevens 0x14 0x17 160
    ∷ elevens 0x18 0x1B 240
    ∷ elevens 0x1C 0x1F 320
    ∷ one_to_five 0x40 40
    ∷ row 0x45 0x45 (tool 12 40)
    ∷ row 0x48 0x4F (tool 13 40)
    ∷ row 0x50 0x5F (six_or_eight 40)
    ∷ row 0x60 0x7F (tool 9 40)
    ∷ one_to_five 0x80 80
    ∷ row 0x86 0x86 (tool 7 80)
    ∷ row 0x90 0x9F (six_or_eight 80)
    ∷ row 0xA0 0xBF (tool 9 80)
    ∷ one_to_five 0xC0 160
    ∷ row 0xC6 0xC6 (tool 7 160)
    ∷ row 0xC8 0xCF (tool 10 160)
    ∷ row 0xD0 0xDF (six_or_eight 160)
    ∷ row 0xE0 0xFF (tool 9 160)
    ∷ (long_rows 0x20 240 ++ long_rows 0x30 320)

-- what the first row that has the octet says; an octet in no row is not assigned
unfoldable pub look_up : List Row → ℕ → First
look_up [] o = unassigned
look_up (r ∷ rs) o = cond (leb r.low o && leb o r.high) (r.begins o) (look_up rs o)

unfoldable pub first_octet : ℕ → First
first_octet o = look_up rows o

-- the length code's octet, and the code itself: "2 bits, or 4 for 240 and 320"
abbrev pub is_long : ℕ → Bool
is_long n = leb 240 n

unfoldable pub base_of : ℕ → ℕ
base_of n = cond (eqb n 40) 0x40 (cond (eqb n 80) 0x80 (cond (eqb n 160) 0xC0 (cond (eqb n 240) 0x20 0x30)))

abbrev pub length_code : ℕ → List ℕ
length_code n = cond (is_long n) (low_bits 4 (base_of n / 16)) (low_bits 2 (base_of n / 64))

-- the first octet that a writer gives tools 1 to 5, and tool 7
abbrev pub octet_for : ℕ → ℕ → ℕ
octet_for t n = base_of n + cond (eqb t 7) (cond (is_long n) 5 6) (t - 1)

-- Tool 6: "after the length code come 010 or 011 (100 or 101 for 240 and 320); the last bit is 1 if minus is commoner"
abbrev pub rice_code : ℕ → ℕ → List ℕ
rice_code n mark = length_code n ++ cond (is_long n) (1 ∷ 0 ∷ mark ∷ []) (0 ∷ 1 ∷ mark ∷ [])

-- the place of that last bit
abbrev pub mark_at : ℕ → ℕ
mark_at n = cond (is_long n) 6 4

-- "If the next two bits are 00 it is tool 8"; where the first of them is 1 the second is not asked for
unfoldable pub six_not_eight : Reader ℕ
six_not_eight = do
  a ← bit
  cond (eqb a 1) (give 6) (do
    b ← bit
    cond (eqb b 1) (give 6) (give 8))
