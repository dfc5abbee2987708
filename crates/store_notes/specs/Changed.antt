-- Cells put in among those in use, and taken out: what stands past those in use stays as it was. What was taken of a greeting, to be put
-- in.
use Rattle.std.specs.Prelude.{ℕ, ◌+◌, ◌*◌, ◌-◌, ◌≤◌, ◌≡◌, List, ◌++◌, false, length, get_or, take, drop}
use Rattle.rules.specs.Tools.{most_law}
use Rattle.rules.specs.Walk.{longest}
use Rattle.store_greeting.specs.Bad.{is_bad}
use Rattle.store_greeting.specs.Marks.{Note, note_of}
use Rattle.store_notes.specs.declared.Head.{Head}
use Rattle.store_notes.specs.Notes.{insert_note, remove_note}
use Rattle.store_notes.specs.Cells.{second_list, first_mark, heads_of, marks_in, notes_of, marks_held, notes_laid}

-- put in at a place; those behind it, up to `used`, moved up
unfoldable pub opened : List ℕ → ℕ → ℕ → List ℕ → List ℕ
opened cells at used new = take at cells ++ (new ++ (take (used - at) (drop at cells) ++ drop (used + length new) cells))

-- so many taken out from a place on; those behind them, up to `used`, moved down
unfoldable pub shut : List ℕ → ℕ → ℕ → ℕ → List ℕ
shut cells at used by = take at cells ++ (take (used - (at + by)) (drop (at + by) cells) ++ drop (used - by) cells)

-- a greeting that is not BAD, and its head
pub record Heard (h : Head) (xs : List ℕ) : Type 0 where
  pub fine : is_bad h.law xs ≡ false
  pub lawful : h.law ≤ most_law
  pub short : length xs ≤ longest
  pub samples-are : h.samples ≡ (note_of h.law xs).samples
  pub count : h.marks ≡ length (note_of h.law xs).marks

-- and its marks, where they have room in the cells that were lent for them
pub record Taken (h : Head) (xs cells : List ℕ) : Type 0 where
  pub heard : Heard h xs
  pub marks-are : 2 * h.marks ≤ length cells → marks_in h.marks cells ≡ (note_of h.law xs).marks

-- room in a table for so many marks more, as many notes standing in it
pub record Opens (t : List ℕ) (n i more : ℕ) : Type 0 where
  pub count : n ≡ get_or t second_list 0
  pub few : n ≤ 31
  pub among : i ≤ n
  pub room : first_mark + 2 * (marks_held (heads_of t) + more) ≤ length t

-- a table with one note more, and with one less
abbrev pub WithNote : ℕ → Note → List ℕ → List ℕ → Type 0
WithNote i note t t' = t' ≡ notes_laid (insert_note i note (notes_of t)) t

abbrev pub WithoutNote : ℕ → List ℕ → List ℕ → Type 0
WithoutNote i t t' = t' ≡ notes_laid (remove_note i (notes_of t)) t
