-- The contract of each public call over a block and a table of any content: its refusals in their order, TABLE first, and what it tells.
use Rattle.std.specs.Prelude.{ℕ, List, [], ◌∷◌, length, ltb}
use Rattle.std.specs.declared.result.Result.{Result}
use Rattle.std.specs.Prelude.{Ok, Err}
use Rattle.rules.specs.Refusals.{numbered}
use Rattle.rules.specs.Judged.{Asked, ask, judged}
use Rattle.store_rows.specs.Limits.{size_of}
use Rattle.store_rows.specs.Finding.{find_from}
use Rattle.store_rows.specs.Cells.{rows_of}
use Rattle.store_notes.specs.Cells.{notes_of}
use Rattle.store.specs.declared.Refusal.{Refusal}
use Rattle.store.specs.declared.Refusal.TheVariants.{Absent}
use Rattle.store.specs.Calls.{refusal_number, table_ask, find_order}
use Rattle.store_tell.specs.declared.Entry.{Entry}
use Rattle.store_tell.specs.declared.Sums.{Sums}
use Rattle.store_tell.specs.Tells.{tell_at, totals_of}

-- what is told, or the refusal
abbrev pub Told : Type 0
Told = Result Entry Refusal

abbrev pub Summed : Type 0
Summed = Result Sums Refusal

-- the number of a call; an accepted one has 0
abbrev pub told_number_of : Told → ℕ
told_number_of = numbered refusal_number

abbrev pub summed_number_of : Summed → ℕ
summed_number_of = numbered refusal_number

-- what a call tells; a refused one reports zeros
abbrev pub entry_in : Told → Entry
entry_in (Ok i) = i
entry_in (Err w) = record { number = 0; start = 0; octets = 0; law = 0; samples = 0; marks = 0 }

abbrev pub sums_in : Summed → Sums
sums_in (Ok s) = s
sums_in (Err w) = record { greetings = 0; held = 0; free = 0; gap = 0 }

-- by its number: "TABLE, NUMBER, ABSENT", as a get has them
unfoldable pub info_of : List ℕ → List ℕ → ℕ → Told
info_of b t number =
    judged (find_order b t number) Err (Ok (tell_at (rows_of t) (notes_of t) (find_from number 0 (rows_of t))))

-- by its place: "TABLE, ABSENT"; "`index` counts from 0, is never wrapped, and is ABSENT from the number of greetings on"
abbrev pub at_order : List ℕ → List ℕ → ℕ → List (Asked Refusal)
at_order b t index = table_ask (size_of b) t ∷ ask Absent (ltb index (length (rows_of t))) ∷ []

unfoldable pub at_of : List ℕ → List ℕ → ℕ → Told
at_of b t index = judged (at_order b t index) Err (Ok (tell_at (rows_of t) (notes_of t) index))

-- all together: "TABLE"; "the size is at most 1,048,576"
abbrev pub totals_order : List ℕ → List ℕ → List (Asked Refusal)
totals_order b t = table_ask (size_of b) t ∷ []

unfoldable pub totals_for : List ℕ → List ℕ → Summed
totals_for b t = judged (totals_order b t) Err (Ok (totals_of (size_of b) (rows_of t)))
