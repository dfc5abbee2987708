-- A decimal number of 1 to 9 digits.
use Rattle.std.specs.Prelude.{ℕ, ◌+◌, ◌*◌, ◌-◌, List, [], ◌∷◌, Bool, cond, ◌&&◌, length, leb, Option, Some, None}

abbrev pub is_digit : ℕ → Bool
is_digit x = leb 0x30 x && leb x 0x39

-- the number that digits are, after those whose number is v; another octet makes it none
unfoldable pub number_from : ℕ → List ℕ → Option ℕ
number_from v [] = Some v
number_from v (x ∷ text) = cond (is_digit x) (number_from (10 * v + (x - 0x30)) text) None

unfoldable pub number_in : List ℕ → Option ℕ
number_in text = cond (leb 1 (length text) && leb (length text) 9) (number_from 0 text) None
