-- The pieces of a form.
use Rattle.std.specs.Prelude.{ℕ, ◌+◌, ◌≤◌, ◌<◌, ◌≡◌, List, [], ◌∷◌, ◌++◌, cond, length, get_or, take, drop, eqb}
use Rattle.rules.specs.Bits.{low_bits}
use Rattle.rules.specs.Fractional.{first_code, fractional_body}
use Rattle.rules.specs.Zeros.{prefix, code_of, most_s}
use Rattle.rules.specs.First.{octet_for, rice_code}
use Rattle.rules.specs.Runs.{rice_forms}
use Rattle.write_scan.specs.declared.row.Row.{Row}
use Rattle.write_scan.specs.Rows.{flags_in}
use Rattle.write_located.specs.declared.Located.{Located}
use Rattle.write_zeros.specs.declared.Zeros.{Zeros}
use Rattle.write_forms.specs.Ways.{way_of, WayPlanned}

-- the octets of tools 1 to 4
unfoldable pub whole_octets : ℕ → List ℕ → List ℕ
whole_octets t s =
    octet_for t (length s) ∷ cond (eqb t 1) s (cond (eqb t 4) (get_or s 0 0 ∷ []) [])

-- n samples copied behind the first octet
pub record Copied (s : List ℕ) (n : ℕ) (o o' : List ℕ) : Type 0 where
  pub says : take (1 + n) o' ≡ take 1 o ++ s
  pub rest : drop (1 + n) o' ≡ drop (1 + n) o
  pub size : length o' ≡ length o

-- Rice as planned, for n samples
abbrev pub rice_form_of : ℕ → Zeros → List ℕ → List ℕ
rice_form_of n r runs = rice_code n r.mark ++ (code_of n r.s ++ rice_forms r.s (take r.count runs))

pub record RiceReady (n : ℕ) (r : Zeros) (runs : List ℕ) : Type 0 where
  pub mark : r.mark < 2
  pub from : 1 ≤ r.s
  pub to : r.s ≤ most_s n
  pub most : r.s ≤ 9
  pub few : r.count ≤ 321
  pub size : length runs ≡ 321

-- the values of a row in turn, as planned
unfoldable pub values_form_of : Located → List ℕ → List ℕ → List ℕ → List ℕ
values_form_of r a b c =
    way_of r.first a ++ cond (eqb r.count 1) [] (way_of r.second b ++ cond (eqb r.count 2) [] (way_of r.third c))

pub record ValuesReady (r : Located) (a b c : List ℕ) : Type 0 where
  pub first : WayPlanned r.first a
  pub second : (r.count ≡ 1 → ⊥) → WayPlanned r.second b
  pub third : (r.count ≡ 1 → ⊥) → (r.count ≡ 2 → ⊥) → WayPlanned r.third c

-- value-location as planned
abbrev pub located_form_of : Located → List ℕ → List ℕ → List ℕ → List ℕ
located_form_of r a b c = low_bits 2 r.row ++ (low_bits 1 r.flag ++ values_form_of r a b c)

pub record LocatedReady (r : Located) (a b c : List ℕ) : Type 0 where
  pub row : r.row < 4
  pub flag : r.flag < 2
  pub values : ValuesReady r a b c

-- the planned form of n samples by value-location
abbrev pub plan_form : ℕ → Located → List ℕ → List ℕ → List ℕ → List ℕ
plan_form n r a b c = prefix 7 n ++ located_form_of r a b c

-- binary from the row of flags, which are 1 at minus zero
abbrev pub binary_form : ℕ → Row → List ℕ
binary_form n row = prefix 5 n ++ flags_in row

-- fractional-bit with row k
abbrev pub row_form : ℕ → ℕ → ℕ → List ℕ → List ℕ
row_form mask n k s = low_bits 8 (first_code n + k) ++ fractional_body mask k s
