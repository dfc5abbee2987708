-- What a store tells of itself: one greeting with what is noted of it (R-6, R-8), and all greetings together.
use Rattle.std.specs.Prelude.{ℕ, ◌+◌, ◌-◌, max, List, [], ◌∷◌, length}
use Rattle.store_rows.specs.declared.rows.Row.{Row}
use Rattle.store_rows.specs.Rows.{held}
use Rattle.store_rows.specs.Changed.{nth}
use Rattle.store_greeting.specs.Marks.{Note}
use Rattle.store_notes.specs.declared.Head.{Head}
use Rattle.store_notes.specs.Notes.{nth_note}
use Rattle.store_notes.specs.Cells.{head_of}
use Rattle.store_tell.specs.declared.Entry.{Entry}
use Rattle.store_tell.specs.declared.Sums.{Sums}

-- "law, samples and marks as they stand in the table", "marks is how many there are"
abbrev pub tell_of : Row → Head → Entry
tell_of r h =
    record { number = r.number; start = r.start; octets = r.octets; law = h.law; samples = h.samples; marks = h.marks }

-- "the greeting at that place in order of start": greetings and notes stand in that order
abbrev pub tell_at : List Row → List Note → ℕ → Entry
tell_at rows notes i = tell_of (nth i rows) (head_of (nth_note i notes))

-- the largest gap from `at` on: "the room before the first greeting is a gap too", and "the room behind the last"
unfoldable pub largest_from : ℕ → ℕ → List Row → ℕ
largest_from size at [] = size - at
largest_from size at (r ∷ rows) = max (r.start - at) (largest_from size (r.start + r.octets) rows)

abbrev pub largest_gap : ℕ → List Row → ℕ
largest_gap size rows = largest_from size 0 rows

-- "greetings, octets held, octets free, largest gap"
abbrev pub totals_of : ℕ → List Row → Sums
totals_of size rows =
    record { greetings = length rows; held = held rows; free = size - held rows; gap = largest_gap size rows }
