-- Closing up as moves, one after another: the greetings that they leave, the octets that they move, and the writes that they ask for.
use Rattle.std.specs.Prelude.{ℕ, zero, suc, ◌+◌, ◌-◌, ◌*◌, ◌/◌, List, [], ◌∷◌, cond, leb, eqb}
use Rattle.store_rows.specs.declared.rows.Row.{Row}
use Rattle.store_rows.specs.Changed.{nth}
use Rattle.std.specs.Prelude.{Option, Some, None}
use Rattle.store_moves.specs.Next.{next_of, moved_at}

-- the greetings after so many moves, or fewer where `next` has none
unfoldable pub closing_rows : ℕ → List Row → Option (ℕ × ℕ) → List Row
closing_rows zero rows due = rows
closing_rows (suc n) rows None = rows
closing_rows (suc n) rows (Some (i, at)) = closing_rows n (moved_at i at rows) (next_of (moved_at i at rows))

-- "the moves' sum"
unfoldable pub closing_sum : ℕ → List Row → Option (ℕ × ℕ) → ℕ
closing_sum zero rows due = 0
closing_sum (suc n) rows None = 0
closing_sum (suc n) rows (Some (i, at)) = (nth i rows).octets + closing_sum n (moved_at i at rows) (next_of (moved_at i at rows))

-- how many greetings are not where closing up puts them, the first of them at `at`
unfoldable pub apart_from : ℕ → List Row → ℕ
apart_from at [] = 0
apart_from at (r ∷ rows) = cond (eqb r.start at) 0 1 + apart_from (at + r.octets) rows

-- "n / max(distance, spare) chunks a move", rounded up
abbrev pub wider : ℕ → ℕ → ℕ
wider d spare = cond (leb spare d) d spare

abbrev pub chunks : ℕ → ℕ → ℕ → ℕ
chunks n d spare = (n + wider d spare - 1) / wider d spare

-- the writes that so many moves ask for at most: the text, the record, and four for each chunk
unfoldable pub closing_most : ℕ → ℕ → List Row → Option (ℕ × ℕ) → ℕ
closing_most zero spare rows due = 0
closing_most (suc n) spare rows None = 0
closing_most (suc n) spare rows (Some (i, at)) =
    2 + 4 * chunks (nth i rows).octets ((nth i rows).start - at) spare + closing_most n spare (moved_at i at rows)
    (next_of (moved_at i at rows))
