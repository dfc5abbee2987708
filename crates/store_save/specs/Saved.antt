-- Document 02, R-6: "The table is saved as key=value lines"; "Reading is refused with TABLE (26) for lines not of this form or order, a
-- number out of range or used twice, more than 32 greetings, or greetings that overlap or pass the block's end, then with BAD"; "ROOM on
-- saving". R-8: "A law above 1, or after BAD samples or marks that the walk doesn't give, is TABLE. A table all in R-6's lines is read by
-- walking each greeting as law 1, as all our early boxes were." R-11: "Saved tables gain a first line `form=2`"; "The new reader takes
-- tables with and without it".
use Rattle.std.specs.Prelude.{ℕ, List, [], ◌∷◌, Bool, true, false, cond, ◌&&◌, length, eqb, ltb}
use Rattle.rules.specs.Judged.{Asked, ask, bar, judged}
use Rattle.store_rows.specs.declared.rows.Row.{Row}
use Rattle.store_rows.specs.Limits.{size_of}
use Rattle.store_rows.specs.Rows.{greeting}
use Rattle.store_rows.specs.Cells.{rows_of}
use Rattle.store_rows.specs.Sane.{rising, numbered}
use Rattle.store_greeting.specs.Bad.{is_bad}
use Rattle.store_greeting.specs.Marks.{Mark, Note, note_of}
use Rattle.store_notes.specs.Cells.{notes_of}
use Rattle.store_notes.specs.Sane.{store_cells}
use Rattle.store.specs.declared.Refusal.{Refusal}
use Rattle.store.specs.declared.Refusal.TheVariants.{Room, Bad, Table}
use Rattle.store.specs.Store.{Outcome, leaves, refused}
use Rattle.store.specs.Calls.{table_ask}
use Rattle.text_keyvalue.specs.Reading.{Read, whole, none}
use Rattle.store_text.specs.Table.{table_in}
use Rattle.store_text.specs.Noted.{Listed, rows_listed, notes_listed, listing}
use Rattle.store_text.specs.Form.{saved_text, formed_in}

-- what a saving writes, or why not
pub data Text : Type 0 where
  saved : List ℕ → Text
  declined : Refusal → Text

-- "ROOM on saving"
abbrev pub room_ask : ℕ → List Listed → ℕ → Asked Refusal
room_ask size xs room = bar Room (ltb room (length (saved_text size xs)))

abbrev pub save_in : ℕ → List Listed → ℕ → Text
save_in size xs room = judged (room_ask size xs room ∷ []) declined (saved (saved_text size xs))

-- the lent table is judged first
abbrev pub save_order : List ℕ → List ℕ → ℕ → List (Asked Refusal)
save_order b t room = table_ask (size_of b) t ∷ room_ask (size_of b) (listing (rows_of t) (notes_of t)) room ∷ []

-- saving always writes R-8's lines, after R-11's first line where that is needed
abbrev pub save_of : List ℕ → List ℕ → ℕ → Text
save_of b t room = judged (save_order b t room) declined (saved (saved_text (size_of b) (listing (rows_of t) (notes_of t))))

-- "BAD", greeting by greeting, each walked by its own law; an empty one is
unfoldable pub any_bad : List ℕ → List Listed → Bool
any_bad b [] = false
any_bad b (x ∷ xs) = cond (is_bad x.note.law (greeting b x.row)) true (any_bad b xs)

abbrev pub same_mark : Mark → Mark → Bool
same_mark m q = eqb m.octets q.octets && eqb m.samples q.samples

unfoldable pub same_marks : List Mark → List Mark → Bool
same_marks [] [] = true
same_marks [] (q ∷ qs) = false
same_marks (m ∷ ms) [] = false
same_marks (m ∷ ms) (q ∷ qs) = cond (same_mark m q) (same_marks ms qs) false

abbrev pub same_note : Note → Note → Bool
same_note n g = eqb n.samples g.samples && same_marks n.marks g.marks

-- "samples or marks that the walk doesn't give"
unfoldable pub all_true : List ℕ → List Listed → Bool
all_true b [] = true
all_true b (x ∷ xs) = cond (same_note x.note (note_of x.note.law (greeting b x.row))) (all_true b xs) false

-- "greetings that overlap or pass the block's end", a number "used twice", over all of them; then BAD; then samples and marks, over all of
-- them. Else the table holds these greetings.
abbrev pub load_asks : List ℕ → ℕ → List Listed → List (Asked Refusal)
load_asks b size xs =
    ask Table (rising 0 0 size (rows_listed xs))
    ∷ ask Table (numbered (rows_listed xs))
    ∷ bar Bad (any_bad b xs)
    ∷ ask Table (all_true b xs)
    ∷ []

unfoldable pub load_in : List ℕ → ℕ → List Listed → Outcome
load_in b size xs =
    judged (load_asks b size xs) refused
    (leaves (record { block = b; rows = rows_listed xs; notes = notes_listed xs; first = 0; second = 0 }))

-- the law of "all our early boxes"
abbrev pub early_law : ℕ
early_law = 1

-- "read by walking each greeting as law 1": R-6's lines stand for R-8's lines with what that walk gives
unfoldable pub early : List ℕ → List Row → List Listed
early b [] = []
early b (r ∷ rows) = record { row = r; note = note_of early_law (greeting b r) } ∷ early b rows

-- "lines not of this form or order, a number out of range .., more than 32 greetings", a law above 1
abbrev pub load_noted : List ℕ → ℕ → Read (List Listed) → Outcome
load_noted b size (whole xs i) = load_in b size xs
load_noted b size none = refused Table

-- "A table all in R-6's lines", or all in R-8's, with R-11's first line or without it
abbrev pub load_read : List ℕ → ℕ → Read (List Row) → Read (List Listed) → Outcome
load_read b size (whole rows i) xs = load_in b size (early b rows)
load_read b size none xs = load_noted b size xs

-- the lent table is output: only its length is judged
abbrev pub load_of : List ℕ → List ℕ → List ℕ → Outcome
load_of text b t =
    judged (bar Table (ltb (length t) (store_cells (size_of b))) ∷ []) refused (load_read b (size_of b) (table_in text) (formed_in text))
