-- Document 01, "What the writer chooses", with tool 11 of document 02, R-14. A frame is the list of its samples; N is their number.
use Rattle.std.specs.Prelude.{ℕ, zero, suc, ◌+◌, ◌*◌, ◌-◌, min, max, List, [], ◌∷◌, ◌++◌, map, Bool, true, false, cond, not, ◌&&◌, ◌||◌, length, get_or, take, eqb, leb, ltb, ℤ, pos, negsuc}
use Rattle.rules.specs.declared.Refusal.{Refusal}
use Rattle.rules.specs.declared.Refusal.TheVariants.{Length, Room}
use Rattle.rules.specs.Refusals.{judged}
use Rattle.rules.specs.Tools.{holds, writer_asks, is_length}
use Rattle.rules.specs.Bits.{low_bits, octets_for}
use Rattle.rules.specs.Samples.{mask_of, signed, sample_of, plus_zero, minus_zero, on_line}
use Rattle.rules.specs.Runs.{runs_form}
use Rattle.rules.specs.Zeros.{prefix, uncompressed_form, plus_form, minus_form, constant_form}
use Rattle.rules.specs.Zeros.{binary_form, code_of, most_s, flag_of, plus_minus_form}
use Rattle.rules.specs.Located.{case_of, values_of, width_of}
use Rattle.rules.specs.Fractional.{least_at, greatest_at, minus_at, first_code, row_count, fractional_body}

-- how many samples pass a test, and whether all do
unfoldable pub count_of : (ℕ → Bool) → List ℕ → ℕ
count_of p [] = 0
count_of p (x ∷ s) = cond (p x) 1 0 + count_of p s

abbrev pub every : (ℕ → Bool) → List ℕ → Bool
every p s = eqb (count_of p s) (length s)

-- of `best` and the numbers from k on, so many more, the first at which f is least: "the smaller S on a tie"
unfoldable pub least_from : (ℕ → ℕ) → ℕ → ℕ → ℕ → ℕ
least_from f best k zero = best
least_from f best k (suc more) = least_from f (cond (ltb (f k) (f best)) k best) (k + 1) more

-- of S = 1 to most
abbrev pub least_s : (ℕ → ℕ) → ℕ → ℕ
least_s f most = least_from f 1 2 (most - 1)

-- Rice: "the commoner zero, plus on a tie; S with fewest bits of S code and runs, the smaller S on a tie"
abbrev pub mark_of : ℕ → List ℕ → ℕ
mark_of mask s = cond (ltb (count_of (λ x. eqb x (plus_zero mask)) s) (count_of (λ x. eqb x (minus_zero mask)) s)) 1 0

abbrev pub rice_bits : ℕ → ℕ → List ℕ → ℕ → ℕ
rice_bits mask mark samples s = length (code_of (length samples) s) + length (runs_form s (map (flag_of mask mark) samples))

abbrev pub best_s : ℕ → ℕ → List ℕ → ℕ
best_s mask mark samples = least_s (rice_bits mask mark samples) (most_s (length samples))

unfoldable pub rice_choice : ℕ → List ℕ → List ℕ
rice_choice mask s = plus_minus_form mask (mark_of mask s) (best_s mask (mark_of mask s) s) s

-- Value-location, for a value: its flags among the places still empty, and what is left after it
abbrev pub flags_for : ℕ → List ℕ → List ℕ
flags_for x left = map (λ y. cond (eqb y x) 1 0) left

unfoldable pub without : ℕ → List ℕ → List ℕ
without x [] = []
without x (y ∷ left) = elim (eqb y x) [ true ↦ without x left | false ↦ y ∷ without x left ]

-- the places that flags mark, counted from p
unfoldable pub places_of : ℕ → List ℕ → List ℕ
places_of p [] = []
places_of p (zero ∷ flags) = places_of (p + 1) flags
places_of p (suc f ∷ flags) = p ∷ places_of (p + 1) flags

unfoldable pub numbers_form : ℕ → List ℕ → List ℕ
numbers_form w [] = []
numbers_form w (p ∷ ps) = low_bits w p ++ numbers_form w ps

-- "L is the fewest run bits over S = 1 to 4 (smaller S on a tie)"
abbrev pub run_s : List ℕ → ℕ
run_s flags = least_s (λ s. length (runs_form s flags)) 4

abbrev pub fewest_run_bits : List ℕ → ℕ
fewest_run_bits flags = length (runs_form (run_s flags) flags)

-- "101 if it doesn't occur; 000 if L exceeds D; else 111 if it occurs at most 4 times and L exceeds count times
-- ceil(log2 D) plus 2; else runs"
unfoldable pub method_of : List ℕ → ℕ
method_of flags =
    cond (eqb (count_of (λ f. eqb f 1) flags) 0) 5
    (cond (ltb (length flags) (fewest_run_bits flags)) 0
    (cond (leb (count_of (λ f. eqb f 1) flags) 4
    && ltb (count_of (λ f. eqb f 1) flags * width_of (length flags) + 2) (fewest_run_bits flags)) 7
    (run_s flags)))

-- the bits of a value's places by each method
unfoldable pub method_form : ℕ → List ℕ → List ℕ
method_form m flags =
    cond (eqb m 0) flags
    (cond (leb m 4) (runs_form m flags)
    (cond (eqb m 5) []
    (low_bits 2 (count_of (λ f. eqb f 1) flags - 1) ++ numbers_form (width_of (length flags)) (places_of 0 flags))))

unfoldable pub value_form : List ℕ → List ℕ
value_form flags = low_bits 3 (method_of flags) ++ method_form (method_of flags) flags

unfoldable pub values_form : List ℕ → List ℕ → List ℕ
values_form [] left = []
values_form (x ∷ xs) left = value_form (flags_for x left) ++ values_form xs (without x left)

-- least and greatest, above and below 0
unfoldable pub least_of : ℕ → List ℕ → ℕ
least_of mask [] = 255
least_of mask (x ∷ s) = min (on_line (signed mask x)) (least_of mask s)

unfoldable pub greatest_of : ℕ → List ℕ → ℕ
greatest_of mask [] = 0
greatest_of mask (x ∷ s) = max (on_line (signed mask x)) (greatest_of mask s)

abbrev pub above : ℕ → List ℕ → ℕ
above mask s = count_of (λ x. ltb (on_line (pos 0)) (on_line (signed mask x))) s

abbrev pub below : ℕ → List ℕ → ℕ
below mask s = count_of (λ x. ltb (on_line (signed mask x)) (on_line (pos 0))) s

-- "flag 1 if as many samples are above 0 as below or more"
abbrev pub located_flag : ℕ → List ℕ → ℕ
located_flag mask s = cond (leb (below mask s) (above mask s)) 1 0

-- a frame's row of a table, where it has one
pub data Row : Type 0 where
  none : Row
  row : ℕ → Row

abbrev pub has_row : Row → Bool
has_row none = false
has_row (row k) = true

-- its number; where there is none it is not asked for
abbrev pub row_number : Row → ℕ
row_number none = 0
row_number (row k) = k

-- the two as one number: the row's, or `past` where there is none
abbrev pub row_or : ℕ → Row → ℕ
row_or past none = past
row_or past (row k) = k

-- "least and greatest are a row's, N fits it"
abbrev pub is_row : ℕ → List ℕ → ℕ → Bool
is_row mask s c =
    eqb (least_of mask s) (on_line (case_of c).least)
    && eqb (greatest_of mask s) (on_line (case_of c).greatest)
    && leb (case_of c).from (length s)

unfoldable pub row_of : ℕ → List ℕ → Row
row_of mask s =
    cond (is_row mask s 0) (row 0)
    (cond (is_row mask s 1) (row 1)
    (cond (is_row mask s 2) (row 2)
    (cond (is_row mask s 3) (row 3)
    none)))

-- "no value is more frequent than 0"; the rows have no others than 1, -1 and -2
abbrev pub zero_leads : ℕ → List ℕ → ℤ → Bool
zero_leads mask s v = leb (count_of (λ x. eqb x (sample_of mask v)) s) (count_of (λ x. eqb x (plus_zero mask)) s)

unfoldable pub located_form : ℕ → List ℕ → List ℕ
located_form mask s =
    prefix 7 (length s)
    ++ (low_bits 2 (row_number (row_of mask s)) ++ (low_bits 1 (located_flag mask s)
    ++ values_form (map (sample_of mask) (values_of (length s) (row_number (row_of mask s)) (located_flag mask s))) s))

-- R-14, by 001's 7.11.2 and table 7-28: a frame's row is told by its least, its greatest and whether -1 occurs
abbrev pub minus_occurs : ℕ → List ℕ → Bool
minus_occurs mask s = not (eqb (count_of (λ x. eqb x (minus_zero mask)) s) 0)

abbrev pub same_test : Bool → Bool → Bool
same_test a b = cond a b (not b)

abbrev pub is_row_of : ℕ → ℕ → Bool → ℕ → Bool
is_row_of least greatest minus k = eqb least (least_at k) && eqb greatest (greatest_at k) && same_test minus (minus_at k)

-- of the rows from k on, so many, the first that is the frame's
unfoldable pub row_from : ℕ → ℕ → Bool → ℕ → ℕ → Row
row_from least greatest minus k zero = none
row_from least greatest minus k (suc more) =
    cond (is_row_of least greatest minus k) (row k) (row_from least greatest minus (k + 1) more)

unfoldable pub frame_row : ℕ → List ℕ → Row
frame_row mask s = row_from (least_of mask s) (greatest_of mask s) (minus_occurs mask s) 0 (row_count (length s))

abbrev pub fractional_applies : ℕ → List ℕ → Bool
fractional_applies mask s = has_row (frame_row mask s)

-- "8 bits" of prefix code, then the "codebits"
unfoldable pub fractional_form : ℕ → List ℕ → List ℕ
fractional_form mask s =
    low_bits 8 (first_code (length s) + row_number (frame_row mask s)) ++ fractional_body mask (row_number (frame_row mask s)) s

-- which tools apply
unfoldable pub applies : ℕ → ℕ → List ℕ → Bool
applies mask t s =
    cond (eqb t 1) true
    (cond (eqb t 2) (every (λ x. eqb x (plus_zero mask)) s)
    (cond (eqb t 3) (every (λ x. eqb x (minus_zero mask)) s)
    (cond (eqb t 4) (every (λ x. eqb x (get_or s 0 0)) s)
    (cond (leb t 6) (every (λ x. eqb x (plus_zero mask) || eqb x (minus_zero mask)) s)
    (cond (eqb t 11) (fractional_applies mask s)
    (leb 80 (length s)
    && has_row (row_of mask s)
    && zero_leads mask s (pos 1) && zero_leads mask s (negsuc 0) && zero_leads mask s (negsuc 1)))))))

-- a tool's form of a frame that it applies to
unfoldable pub form_of : ℕ → ℕ → List ℕ → List ℕ
form_of mask t s =
    cond (eqb t 1) (uncompressed_form s)
    (cond (eqb t 2) (plus_form s)
    (cond (eqb t 3) (minus_form s)
    (cond (eqb t 4) (constant_form s)
    (cond (eqb t 5) (binary_form mask s)
    (cond (eqb t 6) (rice_choice mask s)
    (cond (eqb t 11) (fractional_form mask s)
    (located_form mask s)))))))

abbrev pub octets_of_form : ℕ → List ℕ → ℕ → ℕ
octets_of_form mask s t = octets_for (length (form_of mask t s))

-- "on equal octets the order plus, minus, constant, binary, Rice, value-location, uncompressed"; R-14: tool 11 "stands just before
-- uncompressed", which is what `choose` ends on
abbrev pub tie_order : List ℕ
tie_order = 2 ∷ 3 ∷ 4 ∷ 5 ∷ 6 ∷ 7 ∷ 11 ∷ []

-- of the tools before uncompressed that the set holds and that apply, and uncompressed, the first with fewest octets
unfoldable pub choose : ℕ → ℕ → List ℕ → List ℕ → ℕ
choose mask set s [] = 1
choose mask set s (t ∷ ts) =
    let best = choose mask set s ts in
    cond (holds set t && applies mask t s && leb (octets_of_form mask s t) (octets_of_form mask s best)) t best

abbrev pub chosen_tool : ℕ → ℕ → List ℕ → ℕ
chosen_tool mask set s = choose mask set s tie_order

-- what is written: the tool and the bits. "Zero samples give one octet 00."
pub record Written : Type 0 where
  pub tool : ℕ
  pub bits : List ℕ

unfoldable pub chosen : ℕ → ℕ → List ℕ → Written
chosen mask set s =
    cond (eqb (length s) 0)
    (record { tool = 0; bits = low_bits 8 0 })
    (record { tool = chosen_tool mask set s; bits = form_of mask (chosen_tool mask set s) s })

pub data Write : Type 0 where
  wrote : Written → Write
  declined : Refusal → Write

-- n samples, the first of those given: "A writer takes only the samples up to the length".
-- "Order: LAW, SET, then LENGTH"; "ROOM means the chosen form's octets for a writer"
unfoldable pub write_one : ℕ → List ℕ → ℕ → ℕ → ℕ → Write
write_one n samples law set room =
    judged (writer_asks law set) declined
    (cond (not (eqb n 0 || is_length n)) (declined Length)
    (cond (ltb room (octets_for (length (chosen (mask_of law) set (take n samples)).bits))) (declined Room)
    (wrote (chosen (mask_of law) set (take n samples)))))
