-- Closing up (document 02, R-6) as moves of one greeting each: the next move, a greeting moved, and a greeting renumbered.
use Rattle.std.specs.Prelude.{ℕ, ◌+◌, List, [], ◌∷◌, ◌++◌, cond, not, take, drop, eqb, Option, Some, None}
use Rattle.store_rows.specs.declared.rows.Row.{Row}
use Rattle.store_rows.specs.Limits.{is_number}
use Rattle.store_rows.specs.Rows.{row_of}
use Rattle.store_rows.specs.Finding.{absent, find_from}
use Rattle.store_rows.specs.Changed.{nth}
use Rattle.store_rows.specs.Closing.{moved_to}
use Rattle.store.specs.declared.Refusal.{Refusal}
use Rattle.store.specs.declared.Refusal.TheVariants.{Number, Absent, Taken}
use Rattle.store_moves.specs.declared.calls.Hop.{Hop}

-- how many greetings stand before the next to be moved, and where it goes; or all are where closing up puts them
abbrev pub Due : Type 0
Due = Option (ℕ × ℕ)

-- the first greeting, "in order of start, that is not where closing up puts it": how many stand before it, and where it goes. The i
-- greetings before these end at `at`.
unfoldable pub next_from : ℕ → ℕ → List Row → Due
next_from i at [] = None
next_from i at (r ∷ rows) = cond (eqb r.start at) (next_from (i + 1) (at + r.octets) rows) (Some (i, at))

abbrev pub next_of : List Row → Due
next_of rows = next_from 0 0 rows

-- "number, from, to, octets"; "zeros where all are" where closing up puts them
abbrev pub hop_of : List Row → Due → Hop
hop_of rows (Some (i, at)) =
    record { number = (nth i rows).number; from = (nth i rows).start; to = at; octets = (nth i rows).octets }
hop_of rows None = record { number = 0; from = 0; to = 0; octets = 0 }

-- another row in the place of the one at i
abbrev pub replace_at : ℕ → Row → List Row → List Row
replace_at i r rows = take i rows ++ (r ∷ drop (i + 1) rows)

-- "the table with that greeting at `to`"
abbrev pub moved_at : ℕ → ℕ → List Row → List Row
moved_at i at rows = replace_at i (moved_to at (nth i rows)) rows

-- "the greeting `number` has the number `to`; nothing else changes"
abbrev pub renumbered_to : ℕ → Row → Row
renumbered_to x r = row_of x r.start r.octets

abbrev pub renumbered_at : ℕ → ℕ → List Row → List Row
renumbered_at i x rows = replace_at i (renumbered_to x (nth i rows)) rows

-- the greetings that a call leaves; or it is MOVE, or another refusal
pub data Changed : Type 0 where
  changes : List Row → Changed
  not-next : Changed
  refused : Refusal → Changed

-- "MOVE (27) where it is not the next move; with no next move every held number is MOVE, also to its own start"
abbrev pub moved_by : List Row → ℕ → ℕ → Due → Changed
moved_by rows number to (Some (i, at)) =
    cond (eqb (nth i rows).number number) (cond (eqb at to) (changes (moved_at i at rows)) not-next) not-next
moved_by rows number to None = not-next

-- "NUMBER, ABSENT, MOVE"
unfoldable pub moved_in : List Row → ℕ → ℕ → Changed
moved_in rows number to =
    cond (not (is_number number)) (refused Number)
    (cond (absent number rows) (refused Absent)
    (moved_by rows number to (next_of rows)))

-- "NUMBER (either), ABSENT, TAKEN (also where both are one)"
unfoldable pub renumber_in : List Row → ℕ → ℕ → Changed
renumber_in rows number to =
    cond (not (is_number number)) (refused Number)
    (cond (not (is_number to)) (refused Number)
    (cond (absent number rows) (refused Absent)
    (cond (not (absent to rows)) (refused Taken)
    (changes (renumbered_at (find_from number 0 rows) to rows)))))
