-- What all calls judge after the table, NUMBER, in the code's steps; then how many greetings there are, and the number's place among them.
-- Then a put in its steps: how a greeting longer than the block is refused, what is left to judge, and what is done where it fits.
use Rattle.std.specs.Prelude.{ℕ, ◌≡◌, List, [], ◌∷◌, true, length, get_or, leb}
use Rattle.rules.specs.Judged.{ask, bar, judged}
use Rattle.store_rows.specs.Limits.{is_number, most_greetings}
use Rattle.store_rows.specs.Finding.{find_from}
use Rattle.store_rows.specs.Rows.{row_of}
use Rattle.store_rows.specs.Cells.{rows_of, laid}
use Rattle.store_rows.specs.Changed.{insert_at, written}
use Rattle.store_greeting.specs.Bad.{is_bad}
use Rattle.store_notes.specs.Cells.{notes_of}
use Rattle.store_notes.specs.Sane.{sane_store, Noted}
use Rattle.store.specs.declared.Refusal.{Refusal}
use Rattle.store.specs.declared.Refusal.TheVariants.{Number, Bad, Full, NoRoom}
use Rattle.std.specs.declared.result.Result.{Result}
use Rattle.std.specs.Prelude.{Ok, Err}
use Rattle.store.specs.Store.{leaves, fitted, put_in}
use Rattle.store.specs.Calls.{Answer, Says}

unfoldable pub look_of : List ℕ → ℕ → Result (ℕ × ℕ) Refusal
look_of t number = judged (ask Number (is_number number) ∷ []) Err (Ok (get_or t 0 0, find_from number 0 (rows_of t)))

-- n greetings, and the number's place i among them, after both were judged
pub record Looked (size : ℕ) (t : List ℕ) (number n i : ℕ) : Type 0 where
  pub sane : sane_store size t ≡ true
  pub noted : Noted size t
  pub allowed : is_number number ≡ true
  pub count : n ≡ get_or t 0 0
  pub place : i ≡ find_from number 0 (rows_of t)

-- a greeting longer than the block, once it is neither TAKEN nor its number refused: it never fits
unfoldable pub long_of : ℕ → ℕ → List ℕ → Refusal
long_of n law xs = judged (bar Bad (is_bad law xs) ∷ bar Full (leb most_greetings n) ∷ []) (λ why. why) NoRoom

-- a put, once the table, the law and the number were judged
abbrev pub PutsIn : ℕ → ℕ → ℕ → List ℕ → List ℕ → List ℕ → List ℕ → List ℕ → Answer → Type 0
PutsIn size law number xs b t b' t' r = Says (put_in b size (rows_of t) (notes_of t) law number xs) b t b' t' r

-- where it fits
abbrev pub FitsIn : ℕ → ℕ → ℕ → List ℕ → List ℕ → List ℕ → List ℕ → List ℕ → Answer → Type 0
FitsIn size law number xs b t b' t' r = Says (leaves (fitted b (rows_of t) (notes_of t) size law number xs)) b t b' t' r

-- its octets at a place, and its row, i rows standing before it
abbrev pub PlacedAt : ℕ → ℕ → ℕ → List ℕ → List ℕ → List ℕ → List ℕ → List ℕ → Type 0
PlacedAt i at number xs b t b' t' = (b' ≡ written b at xs) × (t' ≡ laid (insert_at i (row_of number at (length xs)) (rows_of t)) t)
