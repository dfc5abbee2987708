-- A greeting put in among the others, and taken out.
use Rattle.std.specs.Prelude.{ℕ, ◌+◌, List, ◌∷◌, ◌++◌, get_or, length, take, drop}
use Rattle.store_rows.specs.declared.rows.Row.{Row}
use Rattle.store_rows.specs.Rows.{row_of}

-- the greeting at place i
abbrev pub nth : ℕ → List Row → Row
nth i rows = get_or rows i (row_of 0 0 0)

-- i greetings stand before the new one
abbrev pub insert_at : ℕ → Row → List Row → List Row
insert_at i r rows = take i rows ++ (r ∷ drop i rows)

abbrev pub remove_at : ℕ → List Row → List Row
remove_at i rows = take i rows ++ drop (i + 1) rows

-- octets written into a block from a place on
unfoldable pub written : List ℕ → ℕ → List ℕ → List ℕ
written b at xs = take at b ++ (xs ++ drop (at + length xs) b)

-- a row's three cells
unfoldable pub row_laid : List ℕ → ℕ → Row → List ℕ
row_laid t k r = take k t ++ (r.number ∷ r.start ∷ r.octets ∷ drop (k + 3) t)
