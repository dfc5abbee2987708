-- The greetings of a lent table with their notes, in the code's steps: their rows, their second list, and the cells of their marks.
use Rattle.std.specs.Prelude.{ℕ, ◌+◌, ◌*◌, ◌≤◌, List, length, get_or, drop}
use Rattle.store_rows.specs.Limits.{most_greetings, row_cells, list_cells}
use Rattle.store_rows.specs.Cells.{rows_at}
use Rattle.store_greeting.specs.Marks.{Mark, Note, mark_of}
use Rattle.store_notes.specs.Cells.{second_list, first_mark, marks_in, notes_in, marks_held}
use Rattle.store_text.specs.Noted.{Listed, listing}

-- the mark in two cells from place k on
abbrev pub mark_at : List ℕ → ℕ → Mark
mark_at cells k = mark_of (get_or cells k 0) (get_or cells (k + 1) 0)

-- law, samples and number of marks in three cells from place k on; the marks from the first of their cells on
abbrev pub note_at : List ℕ → ℕ → List ℕ → Note
note_at heads k cells = record { law = get_or heads k 0; samples = get_or heads (k + 1) 0; marks = marks_in (get_or heads (k + 2) 0) cells }

-- the cells are there
abbrev pub NoteIn : List ℕ → ℕ → List ℕ → Type 0
NoteIn heads k cells = (k + row_cells ≤ length heads) × (2 * get_or heads (k + 2) 0 ≤ length cells)

-- n greetings
abbrev pub held_in : List ℕ → List ℕ → List ℕ → ℕ → List Listed
held_in table heads cells n = listing (rows_at table n 1) (notes_in (rows_at heads n 1) cells)

abbrev pub AllIn : List ℕ → List ℕ → List ℕ → ℕ → Type 0
AllIn table heads cells n =
    (n ≤ most_greetings) × (list_cells ≤ length table) × (list_cells ≤ length heads) × (2 * marks_held (rows_at heads n 1) ≤ length cells)

-- n greetings of one table
abbrev pub held_of : List ℕ → ℕ → List Listed
held_of t n = held_in t (drop second_list t) (drop first_mark t) n

abbrev pub TextIn : List ℕ → ℕ → Type 0
TextIn t n = (n ≤ most_greetings) × (first_mark + 2 * marks_held (rows_at (drop second_list t) n 1) ≤ length t)
