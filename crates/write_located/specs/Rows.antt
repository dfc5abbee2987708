-- What value-location would write, where it applies.
use Rattle.std.specs.Prelude.{ℕ, ◌+◌, ◌≤◌, ◌<◌, ◌≡◌, List, [], ◌∷◌, Option, Some, None, map, cond, ◌&&◌, length, take, eqb, leb, pos, negsuc}
use Rattle.rules.specs.Samples.{sample_of, plus_zero, minus_zero}
use Rattle.rules.specs.Located.{values_of}
use Rattle.rules.specs.Chooses.{flags_for, without, least_of, greatest_of, above, below, row_number, row_of, located_flag, located_form}
use Rattle.write_scan.specs.Looks.{count_is}
use Rattle.write_located.specs.declared.Tally.{Tally}
use Rattle.write_located.specs.declared.Value.{Value}
use Rattle.write_located.specs.declared.Values.{Values}
use Rattle.write_located.specs.declared.Located.{Located}
use Rattle.write_located.specs.Ways.{WayOf}

-- the least and the greatest of samples from -2 to 1, on the line, by how many there are of each
unfoldable pub least_by : ℕ → ℕ → ℕ → ℕ
least_by twos minus plus = cond (eqb twos 0) (cond (eqb minus 0) (cond (eqb plus 0) 129 128) 127) 126

unfoldable pub greatest_by : ℕ → ℕ → ℕ → ℕ
greatest_by one plus minus = cond (eqb one 0) (cond (eqb plus 0) (cond (eqb minus 0) 126 127) 128) 129

-- samples from -2 to 1, counted
pub record Tallied (mask : ℕ) (s : List ℕ) (t : Tally) : Type 0 where
  pub plus : t.plus ≡ count_is (plus_zero mask) s
  pub one : t.one ≡ count_is (sample_of mask (pos 1)) s
  pub minus : t.minus ≡ count_is (minus_zero mask) s
  pub twos : t.twos ≡ count_is (sample_of mask (negsuc 1)) s
  pub all : t.plus + t.one + t.minus + t.twos ≡ length s
  pub least : least_by t.twos t.minus t.plus ≡ least_of mask s
  pub greatest : greatest_by t.one t.plus t.minus ≡ greatest_of mask s
  pub above : t.one ≡ above mask s
  pub below : t.minus + t.twos ≡ below mask s

-- the row by least and greatest on the line
unfoldable pub row_by : ℕ → ℕ → ℕ → Option ℕ
row_by least greatest n =
    cond (eqb least 126 && eqb greatest 129 && leb 240 n) (Some 0)
    (cond (eqb least 127 && eqb greatest 129 && leb 80 n) (Some 1)
    (cond (eqb least 126 && eqb greatest 128 && leb 80 n) (Some 2)
    (cond (eqb least 128 && eqb greatest 129 && leb 80 n) (Some 3) None)))

-- the row of a tally
abbrev pub row_for : Tally → ℕ → Option ℕ
row_for t n = row_by (least_by t.twos t.minus t.plus) (greatest_by t.one t.plus t.minus) n

-- the values of a row in the order of the flag; rows 2 and 3 have theirs for one flag only
abbrev pub again : Value → Value
again v = record { sample = v.sample; times = 0 }

abbrev pub three : Value → Value → Value → Values
three x y z = record { first = x; second = y; third = z; count = 3 }

abbrev pub two : Value → Value → Values
two x y = record { first = x; second = y; third = again x; count = 2 }

abbrev pub only_of : Value → Values
only_of x = record { first = x; second = again x; third = again x; count = 1 }

unfoldable pub values_by : ℕ → ℕ → Value → Value → Value → Values
values_by row flag one minus twos =
    cond (eqb row 3) (only_of one)
    (cond (eqb row 2) (two minus twos)
    (cond (eqb row 1) (cond (eqb flag 1) (two one minus) (two minus one))
    (cond (eqb flag 1) (three one minus twos) (three minus one twos))))

-- 1, -1 and -2 as they were counted
abbrev pub one_in : ℕ → Tally → Value
one_in mask t = record { sample = sample_of mask (pos 1); times = t.one }

abbrev pub minus_in : ℕ → Tally → Value
minus_in mask t = record { sample = minus_zero mask; times = t.minus }

abbrev pub twos_in : ℕ → Tally → Value
twos_in mask t = record { sample = sample_of mask (negsuc 1); times = t.twos }

abbrev pub values_for : ℕ → Tally → ℕ → ℕ → Values
values_for mask t row flag = values_by row flag (one_in mask t) (minus_in mask t) (twos_in mask t)

-- the samples of values
abbrev pub samples_of : Values → List ℕ
samples_of v = take v.count (v.first.sample ∷ v.second.sample ∷ v.third.sample ∷ [])

-- the samples of the values of a frame
abbrev pub values_in : ℕ → List ℕ → List ℕ
values_in mask s = map (sample_of mask) (values_of (length s) (row_number (row_of mask s)) (located_flag mask s))

-- what value-location writes: its values are x, y and z, as many of them as the row has for the flag
pub record LocatedIs (mask : ℕ) (s : List ℕ) (r : Located) (a b c : List ℕ) : Type 0 where
  pub x : ℕ
  pub y : ℕ
  pub z : ℕ
  pub row : r.row ≡ row_number (row_of mask s)
  pub low : r.row < 4
  pub flag : r.flag ≡ located_flag mask s
  pub mark : r.flag < 2
  pub some : 1 ≤ r.count
  pub few : r.count ≤ 3
  pub values : values_in mask s ≡ take r.count (x ∷ y ∷ z ∷ [])
  pub first : WayOf (flags_for x s) r.first a
  pub second : 2 ≤ r.count → WayOf (flags_for y (without x s)) r.second b
  pub third : 3 ≤ r.count → WayOf (flags_for z (without y (without x s))) r.third c
  pub bits : r.bits ≡ length (located_form mask s)
  pub small : r.bits ≤ 1000000000
