-- The digits of samples by (7-77), the body that they make, and what it is for them to fit a row.
use Rattle.std.specs.Prelude.{ℕ, ◌/◌, ◌≤◌, ◌<◌, List, map, length, get_or}
use Rattle.rules.specs.Samples.{signed}
use Rattle.rules.specs.Fractional.{digit_for, Coding, group_of, coding_of, groups_form}
use Rattle.value_rows.specs.declared.Row.{Row}

abbrev pub digit_in : ℕ → Row → ℕ → ℕ
digit_in mask row x = digit_for row.low row.below (signed mask x)

abbrev pub digits_in : ℕ → Row → List ℕ → List ℕ
digits_in mask row s = map (digit_in mask row) s

-- digits in groups
abbrev pub groups_in : Coding → List ℕ → List ℕ
groups_in c digits = groups_form c (length digits / c.group) digits

-- the body that they make, in the row's groups
abbrev pub body_in : ℕ → Row → List ℕ → List ℕ
body_in mask row s = groups_form (coding_of row.radix) (length s / group_of row.radix) (digits_in mask row s)

pub record DigitsFit (mask : ℕ) (row : Row) (s : List ℕ) : Type 0 where
  pub some : 2 ≤ row.radix
  pub few : row.radix ≤ 6
  pub under : row.below ≤ row.low
  pub least : row.low ≤ 4
  pub each : (i : ℕ) → get_or (digits_in mask row s) i 0 < row.radix
