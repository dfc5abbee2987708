-- How the list of greetings lies in a lent table: cell 0 is how many there are, then number, start and octets of each. A fresh table is all
-- 0.
use Rattle.std.specs.Prelude.{ℕ, zero, suc, ◌+◌, ◌*◌, List, [], ◌∷◌, ◌++◌, length, get_or, drop}
use Rattle.store_rows.specs.declared.rows.Row.{Row}
use Rattle.store_rows.specs.Limits.{row_cells}

-- the three cells from place k on
abbrev pub row_at : List ℕ → ℕ → Row
row_at t k = record { number = get_or t k 0; start = get_or t (k + 1) 0; octets = get_or t (k + 2) 0 }

-- n rows from place k on
unfoldable pub rows_at : List ℕ → ℕ → ℕ → List Row
rows_at t zero k = []
rows_at t (suc n) k = row_at t k ∷ rows_at t n (k + row_cells)

-- the rows of cells that hold nothing else
unfoldable pub rows_in : List ℕ → List Row
rows_in [] = []
rows_in (a ∷ []) = []
rows_in (a ∷ b ∷ []) = []
rows_in (a ∷ b ∷ c ∷ rest) = record { number = a; start = b; octets = c } ∷ rows_in rest

-- the greetings of a table
abbrev pub rows_of : List ℕ → List Row
rows_of t = rows_at t (get_or t 0 0) 1

-- and back
unfoldable pub cells_of : List Row → List ℕ
cells_of [] = []
cells_of (r ∷ rs) = r.number ∷ r.start ∷ r.octets ∷ cells_of rs

-- a table that holds these greetings; the cells past them stay as they were
unfoldable pub laid : List Row → List ℕ → List ℕ
laid rows old = (length rows ∷ cells_of rows) ++ drop (1 + row_cells * length rows) old
