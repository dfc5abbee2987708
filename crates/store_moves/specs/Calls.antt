-- The contract of each public call over a block and a table of any content: TABLE first, then the call's own refusals.
use Rattle.std.specs.Prelude.{ℕ, ◌≡◌, List, cond, not}
use Rattle.store_rows.specs.Limits.{size_of}
use Rattle.store_rows.specs.Cells.{rows_of, laid}
use Rattle.store_notes.specs.Sane.{sane_store}
use Rattle.std.specs.declared.result.Result.{Result}
use Rattle.std.specs.Prelude.{Ok, Err}
use Rattle.rules.specs.Refusals.{numbered}
use Rattle.store.specs.declared.Refusal.{Refusal}
use Rattle.store.specs.declared.Refusal.TheVariants.{Table}
use Rattle.store.specs.Calls.{Answer, refusal_number, refusal-not-zero, answer_of, put_of}
use Rattle.store_moves.specs.declared.calls.Hop.{Hop}
use Rattle.store_moves.specs.declared.calls.Unmoved.{Unmoved}
use Rattle.store_moves.specs.declared.calls.Unmoved.TheVariants.{NotNext, Of}
use Rattle.store_moves.specs.Record.{move_number}
use Rattle.store_moves.specs.Next.{next_of, hop_of, Changed, changes, not-next, refused, moved_in, renumber_in}

-- the number of what refuses a change; no such refusal has 0
abbrev pub unmoved_number : Unmoved → ℕ
unmoved_number NotNext = move_number
unmoved_number (Of w) = refusal_number w

pub unmoved-not-zero : (u : Unmoved) → unmoved_number u ≡ 0 → ⊥
unmoved-not-zero NotNext e = cc
unmoved-not-zero (Of w) e = refusal-not-zero w e

-- what is told, or the refusal; a table changed, or why not
abbrev pub Told : Type 0
Told = Result Hop Refusal

abbrev pub Change : Type 0
Change = Result (Unit {0}) Unmoved

-- the number of a call; an accepted one has 0
abbrev pub told_number : Told → ℕ
told_number = numbered refusal_number

abbrev pub change_number : Change → ℕ
change_number = numbered unmoved_number

-- "the next move of closing up"; a refused call reports zeros
abbrev pub told_hop : Told → Hop
told_hop (Ok h) = h
told_hop (Err w) = record { number = 0; from = 0; to = 0; octets = 0 }

abbrev pub next_told : List ℕ → List ℕ → Told
next_told b t = cond (not (sane_store (size_of b) t)) (Err Table) (Ok (hop_of (rows_of t) (next_of (rows_of t))))

-- what a call that changes the table answers and leaves of it: "nothing else changes"
abbrev pub change_of : Changed → Change
change_of (changes rows) = Ok tt
change_of not-next = Err NotNext
change_of (refused w) = Err (Of w)

abbrev pub table_of : Changed → List ℕ → List ℕ
table_of (changes rows) t = laid rows t
table_of not-next t = t
table_of (refused w) t = t

pub record Changes (o : Changed) (t t' : List ℕ) (r : Change) : Type 0 where
  pub answer : r ≡ change_of o
  pub table : t' ≡ table_of o t

abbrev pub on_table : ℕ → List ℕ → Changed → Changed
on_table size t o = cond (not (sane_store size t)) (refused Table) o

abbrev pub moved_of : List ℕ → List ℕ → ℕ → ℕ → Changed
moved_of b t number to = on_table (size_of b) t (moved_in (rows_of t) number to)

abbrev pub renumber_of : List ℕ → List ℕ → ℕ → ℕ → Changed
renumber_of b t number to = on_table (size_of b) t (renumber_in (rows_of t) number to)

abbrev pub Moved : ℕ → ℕ → List ℕ → List ℕ → List ℕ → Change → Type 0
Moved number to b t t' r = Changes (moved_of b t number to) t t' r

abbrev pub Renumber : ℕ → ℕ → List ℕ → List ℕ → List ℕ → Change → Type 0
Renumber number to b t t' r = Changes (renumber_of b t number to) t t' r

-- "exactly what g7110_store_put would answer and report; nothing changed"
abbrev pub Try : ℕ → ℕ → List ℕ → List ℕ → List ℕ → Answer → Type 0
Try law number xs b t r = r ≡ answer_of (put_of b t law number xs)
