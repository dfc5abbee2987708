-- How the notes lie in a lent table. R-6's 97 cells stay as they are. Cells 97 to 193 are a second list of the same shape: how many there
-- are, as cell 0 says, then each one's head: law, samples and the number of marks. From cell 194 on stand the marks of all, one after
-- another, two cells each.
use Rattle.std.specs.Prelude.{ℕ, zero, suc, ◌+◌, ◌*◌, List, [], ◌∷◌, ◌++◌, length, get_or, take, drop}
use Rattle.store_rows.specs.declared.rows.Row.{Row}
use Rattle.store_rows.specs.Rows.{row_of, held}
use Rattle.store_rows.specs.Limits.{row_cells, list_cells}
use Rattle.store_rows.specs.Cells.{row_at, rows_of, laid}
use Rattle.store_greeting.specs.Marks.{Mark, Note, mark_of, mark_cells}
use Rattle.store_notes.specs.declared.Head.{Head}

-- where the second list begins, and where the marks do
abbrev pub second_list : ℕ
second_list = list_cells

abbrev pub first_mark : ℕ
first_mark = second_list + list_cells

-- a note but for its marks: law, samples, and how many marks
abbrev pub head_of : Note → Head
head_of n = record { law = n.law; samples = n.samples; marks = length n.marks }

-- it lies in the three places of a row, and back
abbrev pub in_row : Head → Row
in_row h = row_of h.law h.samples h.marks

abbrev pub head_in : Row → Head
head_in r = record { law = r.number; samples = r.start; marks = r.octets }

abbrev pub head_row : Note → Row
head_row n = in_row (head_of n)

unfoldable pub heads : List Note → List Row
heads [] = []
heads (n ∷ notes) = head_row n ∷ heads notes

-- the second list of a table, the rows that its heads lie in; and the head at place i of it
abbrev pub heads_of : List ℕ → List Row
heads_of t = rows_of (drop second_list t)

abbrev pub head_at : List ℕ → ℕ → Head
head_at t i = head_in (row_at (drop second_list t) (1 + row_cells * i))

-- so many marks, from the first of these cells on
unfoldable pub marks_in : ℕ → List ℕ → List Mark
marks_in zero cells = []
marks_in (suc n) cells = mark_of (get_or cells 0 0) (get_or cells 1 0) ∷ marks_in n (drop 2 cells)

-- the note of a head whose marks stand from the first of these cells on
abbrev pub note_by : Head → List ℕ → Note
note_by h cells = record { law = h.law; samples = h.samples; marks = marks_in h.marks cells }

unfoldable pub notes_in : List Row → List ℕ → List Note
notes_in [] cells = []
notes_in (r ∷ hs) cells = note_by (head_in r) cells ∷ notes_in hs (drop (2 * (head_in r).marks) cells)

-- the notes of a table
abbrev pub notes_of : List ℕ → List Note
notes_of t = notes_in (heads_of t) (drop first_mark t)

-- how many marks the greetings of a second list have: they stand third in their rows, and are summed as octets are in the first list
abbrev pub marks_held : List Row → ℕ
marks_held hs = held hs

-- and back: the marks of all, one after another
unfoldable pub all_cells : List Note → List ℕ
all_cells [] = []
all_cells (n ∷ notes) = mark_cells n.marks ++ all_cells notes

abbrev pub all_laid : List Note → List ℕ → List ℕ
all_laid notes old = all_cells notes ++ drop (length (all_cells notes)) old

-- the cells from place k on are made anew; those before stay
abbrev pub anew_from : ℕ → (List ℕ → List ℕ) → List ℕ → List ℕ
anew_from k f t = take k t ++ f (drop k t)

-- a table that holds these notes; the cells past them stay as they were
unfoldable pub notes_laid : List Note → List ℕ → List ℕ
notes_laid notes t = anew_from first_mark (all_laid notes) (anew_from second_list (laid (heads notes)) t)

-- a table that holds these greetings with these notes
abbrev pub stored : List Row → List Note → List ℕ → List ℕ
stored rows notes t = notes_laid notes (laid rows t)
