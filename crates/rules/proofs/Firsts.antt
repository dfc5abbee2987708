-- The first octets (specs/First): which are not assigned, and which begin each carried tool and length.
-- Each rule is one test over all 256.
use native.Mathlib.Omega.{arith}
use Prim.Native.Nat.{ℕ, ◌+◌, ◌-◌, ◌/◌, ◌^◌, ◌≤◌, ◌<◌}
use mathlib.Core.Path.{◌≡◌, refl, sym, ap, ap₂, ◌∙◌}
use mathlib.Core.List.{List, [], ◌∷◌}
use mathlib.Core.Bool.{Bool, true, false, beq, not, ◌&&◌, ◌||◌, false≢true}
use lib.Dec.{eqb, leb, ltb}
use lib.ListN.{length}
use borrow.Author.Tests.{eqb-true, leb-true, ltb-true, lt-ltb, le-leb}
use Rattle.rules.specs.Tools.{is_length}
use Rattle.rules.specs.Bits.{low_bits, value_from}
use Rattle.rules.specs.Fractional.{first_code, row_count}
use Rattle.rules.specs.First.{First, unassigned, pad, tool, fractional_row, six_or_eight}
use Rattle.rules.specs.First.{rows, look_up, first_octet, base_of, octet_for, rice_code}
use Rattle.rules.proofs.Tests.{and_left, and_right, or_cases, implied, all_below, all_below-at, by_length}

-- no length has more than twelve rows
pub rows_few : (n : ℕ) → is_length n ≡ true → row_count n ≤ 12
unfolding row_count
rows_few n l = by_length (λ n. row_count n ≤ 12) (omega arith) (omega arith) (omega arith) (omega arith) (omega arith) n l

abbrev one_of : List ℕ → ℕ → Bool
one_of [] o = false
one_of (x ∷ xs) o = eqb o x || one_of xs o

-- PREFIX is exactly 01, 46, 47, 85, 87 to 8F, C5, C7
abbrev pub is_prefix : ℕ → Bool
is_prefix o = one_of (0x01 ∷ 0x46 ∷ 0x47 ∷ 0x85 ∷ 0xC5 ∷ 0xC7 ∷ []) o || (leb 0x87 o && leb o 0x8F)

abbrev pub is_unassigned : First → Bool
is_unassigned unassigned = true
is_unassigned pad = false
is_unassigned (tool t n) = false
is_unassigned (fractional_row k n) = false
is_unassigned (six_or_eight n) = false

beq-eq : (a b : Bool) → beq a b ≡ true → a ≡ b
beq-eq true true e = refl
beq-eq true false e = sym e
beq-eq false true e = e
beq-eq false false e = refl

pub prefix-exactly : (o : ℕ) → o < 256 → is_unassigned (first_octet o) ≡ is_prefix o
unfolding first_octet look_up rows
prefix-exactly o h =
    beq-eq (is_unassigned (first_octet o)) (is_prefix o) (all_below-at (λ o. beq (is_unassigned (first_octet o)) (is_prefix o)) 256 refl o h)

-- A carried tool's first octet, and tool 6's length and three bits, are those that a writer gives it; and the length is one of the five.
-- Tool 11's is that of one of the length's rows.
abbrev pub as_written : ℕ → First → Bool
as_written o unassigned = true
as_written o pad = eqb o 0
as_written o (tool t n) = is_length n && (not (eqb t 6 || eqb t 11) && (leb 8 t || eqb o (octet_for t n)))
as_written o (fractional_row k n) = is_length n && (ltb k (row_count n) && eqb o (first_code n + k))
as_written o (six_or_eight n) =
    is_length n && eqb (o / 2 ^ (8 - length (rice_code n 0)) / 2) (value_from 0 (rice_code n 0) / 2)

pub first-as-written : (o : ℕ) → o < 256 → as_written o (first_octet o) ≡ true
unfolding first_octet look_up rows base_of low_bits value_from first_code row_count
first-as-written o h = all_below-at (λ o. as_written o (first_octet o)) 256 refl o h

-- And what a writer gives is read as that tool and length: tools 1 to 5, and 7 from 80 samples on.
abbrev pub has_own : ℕ → ℕ → Bool
has_own n t = (leb 1 t && leb t 5) || (eqb t 7 && leb 80 n)

abbrev begins_tool : ℕ → ℕ → First → Bool
begins_tool t n unassigned = false
begins_tool t n pad = false
begins_tool t n (tool u m) = eqb u t && eqb m n
begins_tool t n (fractional_row k m) = false
begins_tool t n (six_or_eight m) = false

begins-tool : (t n : ℕ) (f : First) → begins_tool t n f ≡ true → f ≡ tool t n
begins-tool t n unassigned h = absurd (false≢true h)
begins-tool t n pad h = absurd (false≢true h)
begins-tool t n (tool u m) h = ap₂ tool (eqb-true u t (and_left (eqb u t) (eqb m n) h)) (eqb-true m n (and_right (eqb u t) (eqb m n) h))
begins-tool t n (fractional_row k m) h = absurd (false≢true h)
begins-tool t n (six_or_eight m) h = absurd (false≢true h)

abbrev own : ℕ → ℕ → Bool
own n t = not (has_own n t) || begins_tool t n (first_octet (octet_for t n))

-- so it is below 8
pub own-low : (n t : ℕ) → has_own n t ≡ true → t < 8
own-low n t e =
    or_cases (t < 8) (leb 1 t && leb t 5) (eqb t 7 && leb 80 n) e
    (λ h. omega (arith, leb-true t 5 (and_right (leb 1 t) (leb t 5) h)))
    (λ h. omega (arith, eqb-true t 7 (and_left (eqb t 7) (leb 80 n) h)))

pub first-of : (n t : ℕ) → is_length n ≡ true → has_own n t ≡ true → first_octet (octet_for t n) ≡ tool t n
unfolding first_octet look_up rows base_of
first-of n t l e =
    begins-tool t n (first_octet (octet_for t n))
    (implied (has_own n t) (begins_tool t n (first_octet (octet_for t n)))
    (all_below-at (own n) 8 (by_length (λ n. all_below (own n) 8 ≡ true) refl refl refl refl refl n l) t (own-low n t e)) e)

-- Tool 11: every row of a length
abbrev begins_row : ℕ → ℕ → First → Bool
begins_row k n unassigned = false
begins_row k n pad = false
begins_row k n (tool u m) = false
begins_row k n (fractional_row j m) = eqb j k && eqb m n
begins_row k n (six_or_eight m) = false

begins-row : (k n : ℕ) (f : First) → begins_row k n f ≡ true → f ≡ fractional_row k n
begins-row k n unassigned h = absurd (false≢true h)
begins-row k n pad h = absurd (false≢true h)
begins-row k n (tool u m) h = absurd (false≢true h)
begins-row k n (fractional_row j m) h =
    ap₂ fractional_row (eqb-true j k (and_left (eqb j k) (eqb m n) h)) (eqb-true m n (and_right (eqb j k) (eqb m n) h))
begins-row k n (six_or_eight m) h = absurd (false≢true h)

abbrev row_begins : ℕ → ℕ → Bool
row_begins n k = not (ltb k (row_count n)) || begins_row k n (first_octet (first_code n + k))

pub row_first : (n k : ℕ) → is_length n ≡ true → k < row_count n → first_octet (first_code n + k) ≡ fractional_row k n
unfolding first_octet look_up rows first_code row_count
row_first n k l h =
    begins-row k n (first_octet (first_code n + k))
    (implied (ltb k (row_count n)) (begins_row k n (first_octet (first_code n + k)))
    (all_below-at (row_begins n) 12 (by_length (λ n. all_below (row_begins n) 12 ≡ true) refl refl refl refl refl n l) k
    (omega (arith, rows_few n l)))
    (lt-ltb k (row_count n) h))

-- "02 to 1F: tool 11": these are its first octets, and no others
abbrev is_row : First → Bool
is_row unassigned = false
is_row pad = false
is_row (tool t n) = false
is_row (fractional_row k n) = true
is_row (six_or_eight n) = false

rows-exactly : (o : ℕ) → o < 256 → is_row (first_octet o) ≡ leb 0x02 o && leb o 0x1F
unfolding first_octet look_up rows
rows-exactly o h =
    beq-eq (is_row (first_octet o)) (leb 0x02 o && leb o 0x1F)
    (all_below-at (λ o. beq (is_row (first_octet o)) (leb 0x02 o && leb o 0x1F)) 256 refl o h)

pub row-only : (o k n : ℕ) → o < 256 → first_octet o ≡ fractional_row k n → leb 0x02 o && leb o 0x1F ≡ true
row-only o k n h e = sym (rows-exactly o h) ∙ ap is_row e

-- each of them is a row of a length
pub record RowOf (o : ℕ) : Type 0 where
  pub row : ℕ
  pub n : ℕ
  pub len : is_length n ≡ true
  pub few : row < row_count n
  pub is : first_octet o ≡ fractional_row row n

row_in : (o : ℕ) (f : First) → first_octet o ≡ f → is_row f ≡ true → as_written o f ≡ true → RowOf o
row_in o unassigned e h w = absurd (false≢true h)
row_in o pad e h w = absurd (false≢true h)
row_in o (tool t n) e h w = absurd (false≢true h)
row_in o (fractional_row k n) e h w =
    let code = ltb k (row_count n) && eqb o (first_code n + k) in
    record {
      row = k;
      n = n;
      len = and_left (is_length n) code w;
      few = ltb-true k (row_count n) (and_left (ltb k (row_count n)) (eqb o (first_code n + k)) (and_right (is_length n) code w));
      is = e;
    }
row_in o (six_or_eight n) e h w = absurd (false≢true h)

pub row_of : (o : ℕ) → 0x02 ≤ o → o ≤ 0x1F → RowOf o
row_of o l h =
    let row : is_row (first_octet o) ≡ true = rows-exactly o (omega arith) ∙ rw (le-leb 0x02 o l, le-leb o 0x1F h) refl in
    row_in o (first_octet o) refl row (first-as-written o (omega arith))

-- An octet that begins with tool 6's code of a length is tool 6 or 8 of that length.
abbrev pub begins_rice : ℕ → ℕ → ℕ → Bool
begins_rice n mark o = eqb (o / 2 ^ (8 - length (rice_code n mark))) (value_from 0 (rice_code n mark))

abbrev is_six : ℕ → First → Bool
is_six n unassigned = false
is_six n pad = false
is_six n (tool t m) = false
is_six n (fractional_row k m) = false
is_six n (six_or_eight m) = eqb m n

is-six : (n : ℕ) (f : First) → is_six n f ≡ true → f ≡ six_or_eight n
is-six n unassigned h = absurd (false≢true h)
is-six n pad h = absurd (false≢true h)
is-six n (tool t m) h = absurd (false≢true h)
is-six n (fractional_row k m) h = absurd (false≢true h)
is-six n (six_or_eight m) h = ap six_or_eight (eqb-true m n h)

abbrev six : ℕ → ℕ → ℕ → Bool
six n mark o = not (begins_rice n mark o) || is_six n (first_octet o)

pub first-of-six : (n mark o : ℕ) → is_length n ≡ true → mark < 2 → o < 256 → begins_rice n mark o ≡ true → first_octet o ≡ six_or_eight n
unfolding first_octet look_up rows base_of low_bits value_from
first-of-six n mark o l h g e =
    is-six n (first_octet o) (implied (begins_rice n mark o) (is_six n (first_octet o))
    (all_below-at (six n mark) 256 (all_below-at (λ mark. all_below (six n mark) 256) 2
    (by_length (λ n. all_below (λ mark. all_below (six n mark) 256) 2 ≡ true) refl refl refl refl refl n l) mark h) o g) e)
