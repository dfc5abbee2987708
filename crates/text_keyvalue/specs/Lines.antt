-- A line `key=decimal` and octet 0A: as it is written, and as it is read. A key's word ends in '='.
use Rattle.std.specs.Prelude.{ℕ, List, ◌++◌, Bool, cond, ◌&&◌, leb}
use Rattle.rules.specs.Listing.{field, line_end}
use Rattle.text_keyvalue.specs.Reading.{Reader, whole, none, ◌>>=◌, give, after, number}

unfoldable pub line_of : List ℕ → ℕ → List ℕ
line_of key n = field key n ++ line_end

unfoldable pub line : List ℕ → Reader ℕ
line key = after key (number >>= λ n. after line_end (give n))

abbrev pub is_within : ℕ → ℕ → ℕ → Bool
is_within low high n = leb low n && leb n high

-- a line whose number is in a range
unfoldable pub ranged : List ℕ → ℕ → ℕ → Reader ℕ
ranged key low high = line key >>= λ n text i. cond (is_within low high n) (whole n i) none
