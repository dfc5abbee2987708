-- Document 02, R-6: a number among the greetings (TAKEN, ABSENT), and "the lowest gap that holds it".
use Rattle.std.specs.Prelude.{ℕ, ◌+◌, List, [], ◌∷◌, Bool, true, false, cond, eqb, ltb, Option, Some, None}
use Rattle.store_rows.specs.declared.rows.Row.{Row}

-- no greeting has the number
unfoldable pub absent : ℕ → List Row → Bool
absent x [] = true
absent x (r ∷ rs) = cond (eqb r.number x) false (absent x rs)

-- the place of a number among rows of which the first is at i; where it is absent, the place past them
unfoldable pub find_from : ℕ → ℕ → List Row → ℕ
find_from x i [] = i
find_from x i (r ∷ rs) = cond (eqb r.number x) i (find_from x (i + 1) rs)

-- its place; none where it is absent
unfoldable pub place_of : ℕ → List Row → Option ℕ
place_of x rows = cond (absent x rows) None (Some (find_from x 0 rows))

-- the lowest gap that holds so many octets, and how many greetings lie below it; no gap below `at` does, and i greetings lie there.
-- The room behind the last greeting is a gap like any other.
unfoldable pub gap_from : ℕ → ℕ → ℕ → ℕ → List Row → Option (ℕ × ℕ)
gap_from want size at i [] = cond (ltb size (at + want)) None (Some (i, at))
gap_from want size at i (r ∷ rs) = cond (ltb r.start (at + want)) (gap_from want size (r.start + r.octets) (i + 1) rs) (Some (i, at))

abbrev pub lowest_gap : ℕ → ℕ → List Row → Option (ℕ × ℕ)
lowest_gap want size rows = gap_from want size 0 0 rows
