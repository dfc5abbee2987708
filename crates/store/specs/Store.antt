-- Document 02, R-6: "Put, get (start and octets), delete; a refused one changes nothing." Over a block of a size, the list of its greetings
-- and their notes (R-8): "Every put and move keeps marks true to what the walk gives."
use Rattle.std.specs.Prelude.{ℕ, ◌+◌, List, [], ◌∷◌, length, leb, ltb, Option, Some, None}
use Rattle.rules.specs.Judged.{Asked, ask, bar, judged}
use Rattle.rules.specs.Tools.{is_law}
use Rattle.store_rows.specs.declared.rows.Row.{Row}
use Rattle.store_rows.specs.Limits.{most_greetings, is_number}
use Rattle.store_rows.specs.Rows.{row_of, held}
use Rattle.store_rows.specs.Finding.{absent, find_from, lowest_gap}
use Rattle.store_rows.specs.Changed.{nth, insert_at, remove_at, written}
use Rattle.store_rows.specs.Closing.{closed_rows, closed_block, moved_from}
use Rattle.store_greeting.specs.Bad.{is_bad}
use Rattle.store_greeting.specs.Marks.{Note, note_of}
use Rattle.store_notes.specs.Notes.{insert_note, remove_note}
use Rattle.store.specs.declared.Refusal.{Refusal}
use Rattle.store.specs.declared.Refusal.TheVariants.{Law, Number, Taken, Absent, Bad, Full, NoRoom}

-- what an accepted call leaves, and the two numbers that it tells
pub record After : Type 0 where
  pub block : List ℕ
  pub rows : List Row
  pub notes : List Note
  pub first : ℕ
  pub second : ℕ

pub data Outcome : Type 0 where
  leaves : After → Outcome
  refused : Refusal → Outcome

-- "A put takes the lowest gap that holds it": it tells the start, and that no octets moved
abbrev pub put_into : List ℕ → List Row → List Note → ℕ → ℕ → List ℕ → ℕ → ℕ → After
put_into b rows notes law number xs i at =
    record {
      block = written b at xs;
      rows = insert_at i (row_of number at (length xs)) rows;
      notes = insert_note i (note_of law xs) notes;
      first = at;
      second = 0;
    }

-- "if none does, all greetings first close up from 0 in their order": behind them then. Marks count from a greeting's start, so a move
-- changes none.
abbrev pub put_behind : List ℕ → List Row → List Note → ℕ → ℕ → List ℕ → After
put_behind b rows notes law number xs =
    record {
      block = written (closed_block b rows) (held rows) xs;
      rows = insert_at (length rows) (row_of number (held rows) (length xs)) (closed_rows 0 rows);
      notes = insert_note (length rows) (note_of law xs) notes;
      first = held rows;
      second = moved_from 0 rows;
    }

abbrev pub put_at : List ℕ → List Row → List Note → ℕ → ℕ → List ℕ → Option (ℕ × ℕ) → After
put_at b rows notes law number xs (Some (i, at)) = put_into b rows notes law number xs i at
put_at b rows notes law number xs None = put_behind b rows notes law number xs

abbrev pub fitted : List ℕ → List Row → List Note → ℕ → ℕ → ℕ → List ℕ → After
fitted b rows notes size law number xs = put_at b rows notes law number xs (lowest_gap (length xs) size rows)

-- "Refusals, in order: NUMBER (15), TAKEN (16) on put .., BAD (18) .., FULL (19) at 32, NOROOM (20)", and R-8: "LAW first on put".
-- "NOROOM is given exactly when no earlier refusal is and the octets held plus the new ones exceed" the size,
-- wherever the deleted room lies.
abbrev pub put_asks : ℕ → List Row → ℕ → ℕ → List ℕ → List (Asked Refusal)
put_asks size rows law number xs =
    ask Law (is_law law)
    ∷ ask Number (is_number number)
    ∷ ask Taken (absent number rows)
    ∷ bar Bad (is_bad law xs)
    ∷ bar Full (leb most_greetings (length rows))
    ∷ bar NoRoom (ltb size (held rows + length xs))
    ∷ []

unfoldable pub put_in : List ℕ → ℕ → List Row → List Note → ℕ → ℕ → List ℕ → Outcome
put_in b size rows notes law number xs =
    judged (put_asks size rows law number xs) refused (leaves (fitted b rows notes size law number xs))

-- "get (start and octets)"
abbrev pub gotten : List ℕ → List Row → List Note → Row → After
gotten b rows notes r = record { block = b; rows = rows; notes = notes; first = r.start; second = r.octets }

-- "NUMBER (15), .. ABSENT (17) on get and delete"
abbrev pub find_asks : List Row → ℕ → List (Asked Refusal)
find_asks rows number = ask Number (is_number number) ∷ bar Absent (absent number rows) ∷ []

unfoldable pub get_in : List ℕ → List Row → List Note → ℕ → Outcome
get_in b rows notes number =
    judged (find_asks rows number) refused (leaves (gotten b rows notes (nth (find_from number 0 rows) rows)))

-- a delete writes nothing into the block, and tells nothing
abbrev pub without : List ℕ → List Row → List Note → ℕ → After
without b rows notes i = record { block = b; rows = remove_at i rows; notes = remove_note i notes; first = 0; second = 0 }

unfoldable pub delete_in : List ℕ → List Row → List Note → ℕ → Outcome
delete_in b rows notes number = judged (find_asks rows number) refused (leaves (without b rows notes (find_from number 0 rows)))
