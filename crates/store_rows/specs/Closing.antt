-- Document 02, R-6: "all greetings first close up from 0 in their order. Octets moved, reported, are the summed lengths of those whose
-- start changed."
use Rattle.std.specs.Prelude.{ℕ, ◌+◌, ◌≡◌, List, [], ◌∷◌, ◌++◌, cond, drop, eqb}
use Rattle.store_rows.specs.declared.rows.Row.{Row}
use Rattle.store_rows.specs.Rows.{held, greeting}
use Rattle.store_rows.specs.Cells.{laid}

abbrev pub moved_to : ℕ → Row → Row
moved_to at r = record { number = r.number; start = at; octets = r.octets }

-- the greetings one behind another, the first at `at`
unfoldable pub closed_rows : ℕ → List Row → List Row
closed_rows at [] = []
closed_rows at (r ∷ rs) = moved_to at r ∷ closed_rows (at + r.octets) rs

-- their octets
unfoldable pub bodies : List ℕ → List Row → List ℕ
bodies b [] = []
bodies b (r ∷ rs) = greeting b r ++ bodies b rs

-- the greetings from 0 on, and behind them what was there: only their new places are written
abbrev pub closed_block : List ℕ → List Row → List ℕ
closed_block b rows = bodies b rows ++ drop (held rows) b

-- "those whose start changed"
abbrev pub moved_one : ℕ → ℕ → ℕ → ℕ
moved_one start at octets = cond (eqb start at) 0 octets

-- "the summed lengths"
unfoldable pub moved_from : ℕ → List Row → ℕ
moved_from at [] = 0
moved_from at (r ∷ rs) = moved_one r.start at r.octets + moved_from (at + r.octets) rs

-- what closing up leaves of a block and its table, and what it reports
pub record Closes (b t : List ℕ) (rows : List Row) (b' t' : List ℕ) (m : ℕ) : Type 0 where
  pub block : b' ≡ closed_block b rows
  pub table : t' ≡ laid (closed_rows 0 rows) t
  pub moved : m ≡ moved_from 0 rows
