-- The contract of each public call: its answer, the block and the table, for any block, table and octets at all.
use Rattle.std.specs.Prelude.{ℕ, ◌≡◌, List, [], ◌∷◌}
use Rattle.rules.specs.Judged.{Asked, ask, judged}
use Rattle.store_rows.specs.Limits.{size_of}
use Rattle.store_rows.specs.Cells.{rows_of}
use Rattle.store_notes.specs.Cells.{notes_of, stored}
use Rattle.store_notes.specs.Sane.{sane_store}
use Rattle.store.specs.declared.Refusal.{Refusal}
use Rattle.store.specs.declared.Refusal.TheVariants.{Room, Law, Number, Taken, Absent, Bad, Full, NoRoom, Table}
use Rattle.std.specs.declared.result.Result.{Result}
use Rattle.std.specs.Prelude.{Ok, Err}
use Rattle.rules.specs.Refusals.{numbered}
use Rattle.store.specs.Store.{Outcome, leaves, refused, put_asks, put_in, find_asks, get_in, delete_in}

-- the paper's number of a refusal; an accepted call has 0
abbrev pub refusal_number : Refusal → ℕ
refusal_number Room = 4
refusal_number Law = 12
refusal_number Number = 15
refusal_number Taken = 16
refusal_number Absent = 17
refusal_number Bad = 18
refusal_number Full = 19
refusal_number NoRoom = 20
refusal_number Table = 26

-- no refusal has the number 0
pub refusal-not-zero : (w : Refusal) → refusal_number w ≡ 0 → ⊥
refusal-not-zero Room e = cc
refusal-not-zero Law e = cc
refusal-not-zero Number e = cc
refusal-not-zero Taken e = cc
refusal-not-zero Absent e = cc
refusal-not-zero Bad e = cc
refusal-not-zero Full e = cc
refusal-not-zero NoRoom e = cc
refusal-not-zero Table e = cc

-- two numbers, or the refusal
abbrev pub Answer : Type 0
Answer = Result (ℕ × ℕ) Refusal

abbrev pub number_of : Answer → ℕ
number_of = numbered refusal_number

-- the two numbers that an accepted call tells; a refused one reports zeros
abbrev pub first_of : Answer → ℕ
first_of (Ok (first, second)) = first
first_of (Err w) = 0

abbrev pub second_of : Answer → ℕ
second_of (Ok (first, second)) = second
second_of (Err w) = 0

-- a lent table is judged first: TABLE where it is not what calls leave
abbrev pub table_ask : ℕ → List ℕ → Asked Refusal
table_ask size t = ask Table (sane_store size t)

-- "Refusals, in order", TABLE first
abbrev pub put_order : List ℕ → List ℕ → ℕ → ℕ → List ℕ → List (Asked Refusal)
put_order b t law number xs = table_ask (size_of b) t ∷ put_asks (size_of b) (rows_of t) law number xs

abbrev pub find_order : List ℕ → List ℕ → ℕ → List (Asked Refusal)
find_order b t number = table_ask (size_of b) t ∷ find_asks (rows_of t) number

abbrev pub on_table : ℕ → List ℕ → Outcome → Outcome
on_table size t o = judged (table_ask size t ∷ []) refused o

abbrev pub put_of : List ℕ → List ℕ → ℕ → ℕ → List ℕ → Outcome
put_of b t law number xs = on_table (size_of b) t (put_in b (size_of b) (rows_of t) (notes_of t) law number xs)

abbrev pub get_of : List ℕ → List ℕ → ℕ → Outcome
get_of b t number = on_table (size_of b) t (get_in b (rows_of t) (notes_of t) number)

abbrev pub delete_of : List ℕ → List ℕ → ℕ → Outcome
delete_of b t number = on_table (size_of b) t (delete_in b (rows_of t) (notes_of t) number)

-- what a call answers, and what it leaves of the block and the table; "a refused one changes nothing"
abbrev pub answer_of : Outcome → Answer
answer_of (leaves a) = Ok (a.first, a.second)
answer_of (refused w) = Err w

abbrev pub block_after : Outcome → List ℕ → List ℕ
block_after (leaves a) b = a.block
block_after (refused w) b = b

abbrev pub table_after : Outcome → List ℕ → List ℕ
table_after (leaves a) t = stored a.rows a.notes t
table_after (refused w) t = t

pub record Says (o : Outcome) (b t b' t' : List ℕ) (r : Answer) : Type 0 where
  pub answer : r ≡ answer_of o
  pub block : b' ≡ block_after o b
  pub table : t' ≡ table_after o t

-- putting a greeting
abbrev pub Put : ℕ → ℕ → List ℕ → List ℕ → List ℕ → List ℕ → List ℕ → Answer → Type 0
Put law number xs b t b' t' r = Says (put_of b t law number xs) b t b' t' r

-- getting one: nothing is lent to be changed
abbrev pub Get : ℕ → List ℕ → List ℕ → Answer → Type 0
Get number b t r = r ≡ answer_of (get_of b t number)

-- deleting one: the block is not lent to be changed
pub record Delete (number : ℕ) (b t t' : List ℕ) (r : Answer) : Type 0 where
  pub answer : r ≡ answer_of (delete_of b t number)
  pub table : t' ≡ table_after (delete_of b t number) t
