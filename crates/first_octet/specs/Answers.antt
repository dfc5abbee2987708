-- What this crate's answers are in the words of `rules`.
use Rattle.std.specs.Prelude.{ℕ, zero, suc, ◌+◌, ◌*◌, ◌-◌, ◌/◌, ◌%◌, List, [], ◌∷◌, cond, eqb}
use Rattle.rules.specs.First.{First, unassigned, pad, tool, fractional_row, six_or_eight, first_octet}
use Rattle.rules.specs.Fractional.{first_code}
use Rattle.first_octet.specs.declared.Begins.{Begins}
use Rattle.first_octet.specs.declared.Begins.TheVariants.{Unassigned, Pad, Tool, SixOrEight}

-- a tool and a length, with octet o; where the tool is 11 the octet tells the row
abbrev pub tool_with : ℕ → ℕ → ℕ → First
tool_with o t n = cond (eqb t 11) (fractional_row (o - first_code n) n) (tool t n)

-- what first octet o begins
abbrev pub as_first : ℕ → Begins → First
as_first o Unassigned = unassigned
as_first o Pad = pad
as_first o (Tool t n) = tool_with o t n
as_first o (SixOrEight n) = six_or_eight n

-- what octet o's entry of the table tells: the tool as the first hexadecimal digit, the length as the second, in forties
unfoldable pub entry_tells : ℕ → ℕ → First
entry_tells o e =
    cond (eqb e 0) pad
    (cond (eqb e 1) unassigned
    (cond (eqb (e / 16) 6) (six_or_eight (40 * (e % 16)))
    (tool_with o (e / 16) (40 * (e % 16)))))

-- the entry that tells it
abbrev pub entry_for : First → ℕ
entry_for unassigned = 1
entry_for pad = 0
entry_for (tool t n) = 16 * t + n / 40
entry_for (fractional_row k n) = 176 + n / 40
entry_for (six_or_eight n) = 96 + n / 40

-- so many entries, from octet o on
abbrev pub entries : ℕ → ℕ → List ℕ
entries zero o = []
entries (suc k) o = entry_for (first_octet o) ∷ entries k (suc o)

-- entries as one number, the first of them lowest
abbrev pub as_word : List ℕ → ℕ
as_word [] = 0
as_word (e ∷ es) = e + 256 * as_word es

-- the eight entries from octet 8 h on
unfoldable pub eight_from : ℕ → ℕ
eight_from h = as_word (entries 8 (8 * h))
