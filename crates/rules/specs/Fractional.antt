-- Document 02, R-14: tool 11 (fractional-bit), by sections 7.11 and 8.9 of 001: table 7-28, the digits, and the body, as it is read and as
-- it is written. The row of a frame hangs on its least and greatest, and stands in Chooses.
use Rattle.std.specs.Prelude.{ℕ, zero, suc, ◌+◌, ◌*◌, ◌-◌, ◌^◌, ◌/◌, ◌%◌, ◌≤◌, ◌≡◌, List, [], ◌∷◌, ◌++◌, map, Bool, false, cond, ◌||◌, length, get_or, take, drop, eqb, ltb, ℤ, pos, negsuc}
use Rattle.rules.specs.declared.Refusal.TheVariants.{Place}
use Rattle.rules.specs.Bits.{low_bits}
use Rattle.rules.specs.Reading.{Reader, ◌>>=◌, give, fail, here, number}
use Rattle.rules.specs.Samples.{sample_of, on_line}

-- Table 7-28, "Distinctive values within frame", from the least up; the rows stand in the order of their prefix codes.
abbrev pub table : List (List ℤ)
table =
    (pos 0 ∷ pos 1 ∷ [])
    ∷ (negsuc 1 ∷ negsuc 0 ∷ pos 0 ∷ pos 1 ∷ [])
    ∷ (negsuc 1 ∷ pos 0 ∷ [])
    ∷ (negsuc 1 ∷ pos 0 ∷ pos 1 ∷ [])
    ∷ (negsuc 1 ∷ negsuc 0 ∷ pos 0 ∷ [])
    ∷ (negsuc 0 ∷ pos 0 ∷ pos 1 ∷ [])
    ∷ (negsuc 2 ∷ negsuc 1 ∷ pos 0 ∷ pos 1 ∷ [])
    ∷ (negsuc 1 ∷ negsuc 0 ∷ pos 0 ∷ pos 1 ∷ pos 2 ∷ [])
    ∷ (negsuc 1 ∷ pos 0 ∷ pos 1 ∷ pos 2 ∷ [])
    ∷ (negsuc 2 ∷ negsuc 1 ∷ negsuc 0 ∷ pos 0 ∷ pos 1 ∷ pos 2 ∷ [])
    ∷ (negsuc 2 ∷ negsuc 1 ∷ pos 0 ∷ pos 1 ∷ pos 2 ∷ [])
    ∷ (negsuc 3 ∷ negsuc 2 ∷ negsuc 1 ∷ pos 0 ∷ pos 1 ∷ pos 2 ∷ [])
    ∷ []

unfoldable pub values_at : ℕ → List ℤ
values_at k = get_or table k []

-- "Prefix code for each frame length": that of a length's first row, and how many rows it has. The codes run on from there.
unfoldable pub first_code : ℕ → ℕ
first_code n = cond (eqb n 40) 2 (cond (eqb n 80) 14 (cond (eqb n 160) 20 (cond (eqb n 240) 24 28)))

unfoldable pub row_count : ℕ → ℕ
row_count n = cond (eqb n 40) 12 (cond (eqb n 80) 6 4)

-- R' of a row, by the table: how many values it has. Its least and its greatest on the line, and whether -1 is one of its values
abbrev pub radix : ℕ → ℕ
radix k = length (values_at k)

abbrev pub least_at : ℕ → ℕ
least_at k = on_line (get_or (values_at k) 0 (pos 0))

abbrev pub greatest_at : ℕ → ℕ
greatest_at k = on_line (get_or (values_at k) (radix k - 1) (pos 0))

abbrev has_minus_one : List ℤ → Bool
has_minus_one [] = false
has_minus_one (v ∷ vs) = eqb (on_line v) (on_line (negsuc 0)) || has_minus_one vs

abbrev pub minus_at : ℕ → Bool
minus_at k = has_minus_one (values_at k)

-- What 8.9 determines of a row besides R': how far its least is below 0 (X_min), and how many of its values are below 0, one less where -1
-- is left out (the flag of 7-75). Of {0, 1} none are, whatever the flag: "the table decides"
abbrev pub low_at : ℕ → ℕ
low_at k = 128 - least_at k

abbrev pub below_at : ℕ → ℕ
below_at k = low_at k - cond (minus_at k) 0 1

-- The digit of a value by (7-77), and the value of a digit by (8-23) to (8-28), without a sign. That these are the places of the table's
-- values, from the least up, is proved (proofs/Fractional, `values-told`), and that they are what 001 prints (proofs/Equations)
abbrev pub digit_for : ℕ → ℕ → ℤ → ℕ
digit_for low below (pos y) = below + y
digit_for low below (negsuc y) = low - suc y

abbrev pub value_for : ℕ → ℕ → ℕ → ℤ
value_for low below d = cond (ltb d below) (negsuc (low - suc d)) (pos (d - below))

-- How samples are coded: each has one of so many values, so many of them go together, and in so many bits
pub record Coding : Type 0 where
  pub radix : ℕ
  pub group : ℕ
  pub bits : ℕ

abbrev pub coding : ℕ → ℕ → ℕ → Coding
coding radix group bits = record { radix = radix; group = group; bits = bits }

-- Table 7-27, by R'. Where it is 2 or 4 each sample by itself, in 1 or 2 bits; else M = 5 of them as one V, in 8, 12 or 13.
unfoldable pub group_of : ℕ → ℕ
group_of r = cond (eqb r 2 || eqb r 4) 1 5

unfoldable pub bits_for : ℕ → ℕ
bits_for r = cond (eqb r 2) 1 (cond (eqb r 4) 2 (cond (eqb r 3) 8 (cond (eqb r 5) 12 13)))

abbrev pub coding_of : ℕ → Coding
coding_of r = coding r (group_of r) (bits_for r)

-- "Number of output bits per frame" of row k
abbrev pub body_bits : ℕ → ℕ → ℕ
body_bits k n = bits_for (radix k) * (n / group_of (radix k))

-- so a group's digits fit its bits, and n samples are whole groups (proofs/Fractional, `packs-of`)
pub record Packs (c : Coding) (n : ℕ) : Type 0 where
  pub some : 2 ≤ c.radix
  pub few : c.radix ≤ 6
  pub group : 1 ≤ c.group
  pub five : c.group ≤ 5
  pub bits : c.bits ≤ 13
  pub fits : c.radix ^ c.group ≤ 2 ^ c.bits
  pub whole : n / c.group * c.group ≡ n
  pub room : n ≤ 320

-- (7-78): V = l0 + l1 R' + .. + l4 R'^4; and the g digits of V, the lowest first
unfoldable pub of_digits : ℕ → List ℕ → ℕ
of_digits r [] = 0
of_digits r (l ∷ ls) = l + r * of_digits r ls

unfoldable pub digits_of : ℕ → ℕ → ℕ → List ℕ
digits_of r zero v = []
digits_of r (suc g) v = v % r ∷ digits_of r g (v / r)

-- So many groups more, after the digits `done`. Reading of R-14: V not below R'^g is PLACE, judged when V is whole, at V's first bit
unfoldable pub groups_from : Coding → List ℕ → ℕ → Reader (List ℕ)
groups_from c done zero = give done
groups_from c done (suc more) = do
  start ← here
  v ← number c.bits
  cond (ltb v (c.radix ^ c.group)) (groups_from c (done ++ digits_of c.radix c.group v) more) (fail Place start)

unfoldable pub groups_form : Coding → ℕ → List ℕ → List ℕ
groups_form c zero digits = []
groups_form c (suc more) digits =
    low_bits c.bits (of_digits c.radix (take c.group digits)) ++ groups_form c more (drop c.group digits)

-- the place of a sample among these values, the least first: its digit
unfoldable pub place_in : List ℕ → ℕ → ℕ
place_in [] x = 0
place_in (y ∷ ys) x = cond (eqb x y) 0 (suc (place_in ys x))

-- n samples of these values, in groups
unfoldable pub groups_as : List ℕ → Coding → ℕ → Reader (List ℕ)
groups_as values c n = do
  digits ← groups_from c [] (n / c.group)
  give (map (λ d. get_or values d 0) digits)

unfoldable pub groups_form_as : List ℕ → Coding → List ℕ → List ℕ
groups_form_as values c s = groups_form c (length s / c.group) (map (place_in values) s)

-- the values of row k as samples, and its body: of n samples as it is read, of the samples s as it is written
unfoldable pub samples_at : ℕ → ℕ → List ℕ
samples_at mask k = map (sample_of mask) (values_at k)

abbrev pub fractional : ℕ → ℕ → ℕ → Reader (List ℕ)
fractional mask k n = groups_as (samples_at mask k) (coding_of (radix k)) n

abbrev pub fractional_body : ℕ → ℕ → List ℕ → List ℕ
fractional_body mask k s = groups_form_as (samples_at mask k) (coding_of (radix k)) s

-- Table 7-28 as it is printed: R, R', the values, and the prefix codes of 40, 80, 160, 240 and 320, as many as the row has. That `table`,
-- `first_code` and `row_count` say the same is proved (proofs/Fractional, `as-printed`).
pub record Printed : Type 0 where
  pub range : ℕ
  pub reduced : ℕ
  pub values : List ℤ
  pub codes : List ℕ

abbrev printed : ℕ → ℕ → List ℤ → List ℕ → Printed
printed range reduced values codes = record { range = range; reduced = reduced; values = values; codes = codes }

abbrev pub table728 : List Printed
table728 =
    printed 2 2 (pos 0 ∷ pos 1 ∷ []) (2 ∷ 14 ∷ 20 ∷ 24 ∷ 28 ∷ [])
    ∷ printed 3 2 (negsuc 1 ∷ pos 0 ∷ []) (4 ∷ 16 ∷ 22 ∷ 26 ∷ 30 ∷ [])
    ∷ printed 3 3 (negsuc 1 ∷ negsuc 0 ∷ pos 0 ∷ []) (6 ∷ 18 ∷ [])
    ∷ printed 3 3 (negsuc 0 ∷ pos 0 ∷ pos 1 ∷ []) (7 ∷ 19 ∷ [])
    ∷ printed 4 3 (negsuc 1 ∷ pos 0 ∷ pos 1 ∷ []) (5 ∷ 17 ∷ 23 ∷ 27 ∷ 31 ∷ [])
    ∷ printed 4 4 (negsuc 1 ∷ negsuc 0 ∷ pos 0 ∷ pos 1 ∷ []) (3 ∷ 15 ∷ 21 ∷ 25 ∷ 29 ∷ [])
    ∷ printed 5 4 (negsuc 2 ∷ negsuc 1 ∷ pos 0 ∷ pos 1 ∷ []) (8 ∷ [])
    ∷ printed 5 4 (negsuc 1 ∷ pos 0 ∷ pos 1 ∷ pos 2 ∷ []) (10 ∷ [])
    ∷ printed 5 5 (negsuc 1 ∷ negsuc 0 ∷ pos 0 ∷ pos 1 ∷ pos 2 ∷ []) (9 ∷ [])
    ∷ printed 6 5 (negsuc 2 ∷ negsuc 1 ∷ pos 0 ∷ pos 1 ∷ pos 2 ∷ []) (12 ∷ [])
    ∷ printed 6 6 (negsuc 2 ∷ negsuc 1 ∷ negsuc 0 ∷ pos 0 ∷ pos 1 ∷ pos 2 ∷ []) (11 ∷ [])
    ∷ printed 7 6 (negsuc 3 ∷ negsuc 2 ∷ negsuc 1 ∷ pos 0 ∷ pos 1 ∷ pos 2 ∷ []) (13 ∷ [])
    ∷ []
