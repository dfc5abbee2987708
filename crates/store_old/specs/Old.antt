-- Document 02, R-11: "The old table reader must refuse a form=2 table at its first line with TABLE, never show a shortened number." This is
-- the reader as it stood before R-11 and R-14: blocks of 16,384 octets, and greetings "that the walk accepts with set 127" (R-6). The set
-- is a parameter: what is promised of it holds of every set.
use Rattle.std.specs.Prelude.{ℕ, ◌+◌, ◌*◌, ◌/◌, min, List, [], ◌∷◌, Bool, true, false, cond, not, length, ltb}
use Rattle.rules.specs.Judged.{Asked, ask, bar, judged}
use Rattle.rules.specs.Walk.{Walked, walk_all}
use Rattle.store_rows.specs.declared.rows.Row.{Row}
use Rattle.store_rows.specs.Limits.{most_greetings}
use Rattle.store_rows.specs.Rows.{greeting}
use Rattle.store_rows.specs.Sane.{rising, numbered}
use Rattle.store_greeting.specs.Bad.{is_done, never_short}
use Rattle.store_greeting.specs.Marks.{Note, frames_apart, samples_of, marks_of}
use Rattle.store_notes.specs.Cells.{first_mark}
use Rattle.store.specs.declared.Refusal.{Refusal}
use Rattle.store.specs.declared.Refusal.TheVariants.{Bad, Table}
use Rattle.store.specs.Store.{Outcome, leaves, refused}
use Rattle.text_keyvalue.specs.Reading.{Read, whole, none}
use Rattle.store_text.specs.Table.{table_in}
use Rattle.store_text.specs.Noted.{Listed, rows_listed, notes_listed, listed_in}
use Rattle.store_save.specs.Saved.{same_note, early_law}

-- "one block of 16,384 octets"
abbrev pub old_block : ℕ
old_block = 16384

abbrev pub old_size_of : List ℕ → ℕ
old_size_of b = min (length b) old_block

abbrev pub old_cells : ℕ → ℕ
old_cells size = first_mark + 2 * (min size old_block / frames_apart + most_greetings)

-- "set 127"
abbrev pub old_set : ℕ
old_set = 127

-- the walk of a greeting
abbrev pub walk_with : ℕ → ℕ → List ℕ → Walked
walk_with set law xs = walk_all xs law set (never_short (length xs))

-- "BAD (18) if the walk, room never short, refuses or the greeting is empty"
unfoldable pub bad_with : ℕ → ℕ → List ℕ → Bool
bad_with set law xs = cond (ltb (length xs) 1) true (not (is_done (walk_with set law xs).end))

unfoldable pub any_bad_with : ℕ → List ℕ → List Listed → Bool
any_bad_with set b [] = false
any_bad_with set b (x ∷ xs) = cond (bad_with set x.note.law (greeting b x.row)) true (any_bad_with set b xs)

-- "samples or marks that the walk doesn't give"
abbrev pub note_with : ℕ → ℕ → List ℕ → Note
note_with set law xs =
    record { law = law; samples = samples_of (walk_with set law xs).frames; marks = marks_of (walk_with set law xs).frames }

unfoldable pub all_true_with : ℕ → List ℕ → List Listed → Bool
all_true_with set b [] = true
all_true_with set b (x ∷ xs) =
    cond (same_note x.note (note_with set x.note.law (greeting b x.row))) (all_true_with set b xs) false

-- "read by walking each greeting as law 1"
unfoldable pub early_with : ℕ → List ℕ → List Row → List Listed
early_with set b [] = []
early_with set b (r ∷ rows) = record { row = r; note = note_with set early_law (greeting b r) } ∷ early_with set b rows

-- the order TABLE, BAD, TABLE
abbrev pub old_asks : ℕ → List ℕ → ℕ → List Listed → List (Asked Refusal)
old_asks set b size xs =
    ask Table (rising 0 0 size (rows_listed xs))
    ∷ ask Table (numbered (rows_listed xs))
    ∷ bar Bad (any_bad_with set b xs)
    ∷ ask Table (all_true_with set b xs)
    ∷ []

unfoldable pub old_load_in : ℕ → List ℕ → ℕ → List Listed → Outcome
old_load_in set b size xs =
    judged (old_asks set b size xs) refused
    (leaves (record { block = b; rows = rows_listed xs; notes = notes_listed xs; first = 0; second = 0 }))

abbrev pub old_load_noted : ℕ → List ℕ → ℕ → Read (List Listed) → Outcome
old_load_noted set b size (whole xs i) = old_load_in set b size xs
old_load_noted set b size none = refused Table

abbrev pub old_load_read : ℕ → List ℕ → ℕ → Read (List Row) → Read (List Listed) → Outcome
old_load_read set b size (whole rows i) xs = old_load_in set b size (early_with set b rows)
old_load_read set b size none xs = old_load_noted set b size xs

-- R-6's lines or R-8's, starts and counts of octets up to 65,535
abbrev pub old_load_of : ℕ → List ℕ → List ℕ → List ℕ → Outcome
old_load_of set text b t =
    judged (bar Table (ltb (length t) (old_cells (old_size_of b))) ∷ []) refused
    (old_load_read set b (old_size_of b) (table_in text) (listed_in text))
