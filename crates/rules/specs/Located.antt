-- Document 01, "Tool 7" (value-location), as mended by document 02, R-4: its table, and how it is read. Its form hangs on what the writer
-- chooses, and stands in Chooses. The cells of a frame are its samples: all begin as plus zero, and a cell that still is plus zero is
-- empty.
use Rattle.std.specs.Prelude.{ℕ, zero, suc, ◌+◌, ◌-◌, ◌^◌, List, [], ◌∷◌, ◌++◌, map, cond, ◌&&◌, length, get_or, replicate, eqb, leb, ltb, ℤ, pos, negsuc}
use Rattle.rules.specs.declared.Refusal.TheVariants.{Case, Method, Place}
use Rattle.rules.specs.Reading.{Reader, ◌>>=◌, give, fail, here, number, bits_from}
use Rattle.rules.specs.Samples.{sample_of, plus_zero}
use Rattle.rules.specs.Runs.{runs}

-- A row of the table of range cases: least, greatest, the least N, and the values for flag 1 and flag 0. No values are CASE.
pub record RangeCase : Type 0 where
  pub least : ℤ
  pub greatest : ℤ
  pub from : ℕ
  pub flag1 : List ℤ
  pub flag0 : List ℤ

abbrev pub case0 : RangeCase
case0 = record {
  least = negsuc 1;
  greatest = pos 1;
  from = 240;
  flag1 = pos 1 ∷ negsuc 0 ∷ negsuc 1 ∷ [];
  flag0 = negsuc 0 ∷ pos 1 ∷ negsuc 1 ∷ [];
}

abbrev pub case1 : RangeCase
case1 = record { least = negsuc 0; greatest = pos 1; from = 80; flag1 = pos 1 ∷ negsuc 0 ∷ []; flag0 = negsuc 0 ∷ pos 1 ∷ [] }

abbrev pub case2 : RangeCase
case2 = record { least = negsuc 1; greatest = pos 0; from = 80; flag1 = []; flag0 = negsuc 0 ∷ negsuc 1 ∷ [] }

abbrev pub case3 : RangeCase
case3 = record { least = pos 0; greatest = pos 1; from = 80; flag1 = pos 1 ∷ []; flag0 = [] }

unfoldable pub case_of : ℕ → RangeCase
case_of c = cond (eqb c 0) case0 (cond (eqb c 1) case1 (cond (eqb c 2) case2 case3))

abbrev pub row_values : RangeCase → ℕ → ℕ → List ℤ
row_values row n flag = cond (leb row.from n) (cond (eqb flag 1) row.flag1 row.flag0) []

unfoldable pub values_of : ℕ → ℕ → ℕ → List ℤ
values_of n c flag = row_values (case_of c) n flag

-- ceil(log2 D): the least w, of those from w on, with D at most 2^w
unfoldable pub width_from : ℕ → ℕ → ℕ → ℕ
width_from w zero d = w
width_from w (suc more) d = cond (leb d (2 ^ w)) w (width_from (w + 1) more d)

abbrev pub width_of : ℕ → ℕ
width_of d = width_from 0 d d

-- "that many places of ceil(log2 D) bits, rising, each below D", after those that `done` has marked; judged one by one
unfoldable pub listed_from : ℕ → ℕ → List ℕ → ℕ → Reader (List ℕ)
listed_from w d done zero = give (done ++ replicate (d - length done) 0)
listed_from w d done (suc more) = do
  start ← here
  p ← number w
  cond (leb (length done) p && ltb p d)
      (listed_from w d (done ++ (replicate (p - length done) 0 ++ (1 ∷ []))) more)
      (fail Place start)

-- "111, two bits for count less one", then the places
unfoldable pub listed : ℕ → Reader (List ℕ)
listed d = do
  less ← number 2
  listed_from (width_of d) d [] (less + 1)

-- the D flags of a value, by its method; N is the frame's length. `start` is the method's first bit
unfoldable pub by_method : ℕ → ℕ → ℕ → ℕ → Reader (List ℕ)
by_method n d start m =
    cond (eqb m 0) (bits_from [] d)
    (cond (leb m 4) (runs n m d)
    (cond (eqb m 5) (give (replicate d 0))
    (cond (eqb m 6) (fail Method start)
    (listed d))))

-- the places still empty
unfoldable pub empty_in : ℕ → List ℕ → ℕ
empty_in z [] = 0
empty_in z (x ∷ cells) = cond (eqb x z) 1 0 + empty_in z cells

-- x laid into the empty cells that the flags from place p on mark
unfoldable pub lay : ℕ → ℕ → List ℕ → ℕ → List ℕ → List ℕ
lay z x flags p [] = []
lay z x flags p (y ∷ cells) =
    cond (eqb y z) (cond (eqb (get_or flags p 0) 1) x z) y ∷ lay z x flags (cond (eqb y z) (p + 1) p) cells

-- the values in turn: "D is N for the first value, then the places still empty". Document 02, R-4: nothing is asked of what is left.
-- Where D is 0, methods 000 to 101 so read no bits and mean none, and 111 reads its two bits and is PLACE (proofs/Located).
unfoldable pub values_into : ℕ → ℕ → List ℕ → List ℕ → Reader (List ℕ)
values_into n z [] cells = give cells
values_into n z (x ∷ xs) cells = do
  start ← here
  m ← number 3
  flags ← by_method n (empty_in z cells) start m
  values_into n z xs (lay z x flags 0 cells)

-- "range case (2 bits), flag (1 bit), then the values below in turn"; CASE is judged of all three bits and N together
unfoldable pub located : ℕ → ℕ → Reader (List ℕ)
located mask n = do
  start ← here
  c ← number 2
  flag ← number 1
  cond (eqb (length (values_of n c flag)) 0) (fail Case start)
      (values_into n (plus_zero mask) (map (sample_of mask) (values_of n c flag)) (replicate n (plus_zero mask)))
