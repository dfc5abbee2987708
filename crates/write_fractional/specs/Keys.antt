-- A row where there is one; and least, greatest and whether -1 occurs as one number.
use Rattle.std.specs.Prelude.{ℕ, ◌+◌, ◌*◌, Bool, cond, Option, Some, None}
use Rattle.rules.specs.Chooses.{Row, none, row}
use Rattle.rules.specs.Fractional.{least_at, greatest_at, minus_at}

abbrev pub row_in : Row → Option ℕ
row_in none = None
row_in (row k) = Some k

abbrev pub key_of : ℕ → ℕ → Bool → ℕ
key_of least greatest minus = 512 * least + 2 * greatest + cond minus 1 0

unfoldable pub row_key : ℕ → ℕ
row_key k = key_of (least_at k) (greatest_at k) (minus_at k)
