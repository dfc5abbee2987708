-- Loading in the code's steps: the greetings of a text as rows and laws in cells, of R-6's lines or of R-8's.
use Rattle.std.specs.Prelude.{ℕ, ◌+◌, ◌*◌, ◌≤◌, ◌≡◌, List, [], ◌∷◌, ◌++◌, Bool, true, false, cond, length, get_or, drop, Ok, Err}
use Rattle.rules.specs.Judged.{Asked, ask, bar, judged}
use Rattle.store_rows.specs.declared.rows.Row.{Row}
use Rattle.store_rows.specs.Limits.{largest_block, most_greetings, list_cells}
use Rattle.store_rows.specs.Rows.{greeting}
use Rattle.store_rows.specs.Cells.{rows_at, laid}
use Rattle.store_rows.specs.Sane.{rising, numbered}
use Rattle.store_greeting.specs.Bad.{is_bad}
use Rattle.store_greeting.specs.Marks.{Note, note_of, most_marks}
use Rattle.store_notes.specs.Cells.{second_list, first_mark, heads_of, marks_held, notes_laid}
use Rattle.store_notes.specs.Sane.{store_cells}
use Rattle.store.specs.declared.Refusal.{Refusal}
use Rattle.store.specs.declared.Refusal.TheVariants.{Bad, Table}
use Rattle.store.specs.Calls.{Answer}
use Rattle.text_keyvalue.specs.Reading.{Read, whole, none}
use Rattle.store_text.specs.Noted.{Listed, rows_listed}
use Rattle.store_text.specs.Fills.{laws_listed}
use Rattle.store_save.specs.Saved.{any_bad}
use Rattle.store_save.specs.Verdicts.{Verdict}

-- "BAD", greeting by greeting, each walked by its law
unfoldable pub bad_by : List ℕ → List Row → List ℕ → Bool
bad_by b [] laws = false
bad_by b (r ∷ rows) laws = cond (is_bad (get_or laws 0 0) (greeting b r)) true (bad_by b rows (drop 1 laws))

-- what the walks give
unfoldable pub notes_by : List ℕ → List Row → List ℕ → List Note
notes_by b [] laws = []
notes_by b (r ∷ rows) laws = note_of (get_or laws 0 0) (greeting b r) ∷ notes_by b rows (drop 1 laws)

-- all but samples and marks
abbrev pub rows_asks : ℕ → List Row → Bool → List (Asked Refusal)
rows_asks size rows bad = ask Table (rising 0 0 size rows) ∷ ask Table (numbered rows) ∷ bar Bad bad ∷ []

unfoldable pub judged_by : List ℕ → ℕ → List Row → List ℕ → Verdict
judged_by b size rows laws = judged (rows_asks size rows (bad_by b rows laws)) Err (Ok tt)

-- the greetings of a text, and whether it is one
abbrev pub greetings_of : Read (List Listed) → List Listed
greetings_of (whole xs i) = xs
greetings_of none = []

abbrev pub is_whole : Read (List Listed) → Bool
is_whole (whole xs i) = true
is_whole none = false

-- greetings in cells
pub record Celled (xs : List Listed) (cells laws : List ℕ) (n : ℕ) : Type 0 where
  pub few : n ≤ most_greetings
  pub cells-room : list_cells ≤ length cells
  pub laws-room : most_greetings ≤ length laws
  pub rows_are : rows_at cells n 1 ≡ rows_listed xs
  pub laws-are : laws ≡ laws_listed xs ++ drop (length xs) laws
  pub counts : get_or cells 0 0 ≡ n

-- a text whose greetings are apart, inside the block and not BAD: what samples and marks are judged of
pub record Fitting (b : List ℕ) (size n : ℕ) (found : Read (List Listed)) : Type 0 where
  pub reads : is_whole found ≡ true
  pub count : n ≡ length (greetings_of found)
  pub inside : size ≤ length b
  pub small : size ≤ largest_block
  pub rises : rising 0 0 size (rows_listed (greetings_of found)) ≡ true
  pub fine : any_bad b (greetings_of found) ≡ false

-- a note behind those that a table holds; there is room for its marks
pub record OneMore (law : ℕ) (xs t : List ℕ) (i : ℕ) : Type 0 where
  pub fine : is_bad law xs ≡ false
  pub small : length xs ≤ largest_block
  pub count : i ≡ get_or t second_list 0
  pub few : i ≤ 31
  pub room : first_mark + 2 * (marks_held (heads_of t) + most_marks (length xs)) ≤ length t

-- the notes of all; there is room for them
pub record AllNotes (b cells laws : List ℕ) (n size : ℕ) (t : List ℕ) : Type 0 where
  pub few : n ≤ most_greetings
  pub cells-room : list_cells ≤ length cells
  pub laws-room : most_greetings ≤ length laws
  pub inside : size ≤ length b
  pub small : size ≤ largest_block
  pub rises : rising 0 0 size (rows_at cells n 1) ≡ true
  pub fine : bad_by b (rows_at cells n 1) laws ≡ false
  pub room : store_cells size ≤ length t

-- what a verdict leads to: the greetings of the cells and their notes in the table, or the table as it was
abbrev pub told_by : Verdict → Answer
told_by (Err w) = Err w
told_by (Ok _) = Ok (0, 0)

abbrev pub left_by : Verdict → List ℕ → List ℕ → List ℕ
left_by (Err w) new old = old
left_by (Ok _) new old = new

pub record Holds (v : Verdict) (b cells laws : List ℕ) (n : ℕ) (t t' : List ℕ) (r : Answer) : Type 0 where
  pub answer : r ≡ told_by v
  pub table : t' ≡ left_by v (notes_laid (notes_by b (rows_at cells n 1) laws) (laid (rows_at cells n 1) t)) t
