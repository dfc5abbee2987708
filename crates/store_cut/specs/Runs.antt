-- A run of a box: a list of calls, each made whole or cut in any of its writes, and after each a start, which may be cut too, and again.
-- A call sees what the last start has found: the block, and the table that the text of the page in use is loaded into.
use Rattle.std.specs.Prelude.{ℕ, ◌≡◌, List, [], ◌∷◌, ◌++◌, cond, length, eqb}
use Rattle.store_rows.specs.declared.rows.Row.{Row}
use Rattle.store_rows.specs.Limits.{size_of}
use Rattle.store_rows.specs.Rows.{held, Kept, contents}
use Rattle.store_rows.specs.Finding.{lowest_gap}
use Rattle.store_rows.specs.Cells.{laid}
use Rattle.store_greeting.specs.Marks.{Note}
use Rattle.store_notes.specs.Cells.{stored}
use Rattle.std.specs.Prelude.{Ok, Err}
use Rattle.store.specs.Store.{Outcome, leaves, refused, After, put_in}
use Rattle.store.specs.Calls.{Answer, first_of, answer_of, put_of, delete_of}
use Rattle.store_save.specs.Saved.{load_of}
use Rattle.store_promises.specs.Told.{putting, deleting, loading, Store, rows_in, notes_for, see}
use Rattle.store_moves.specs.Moves.{lasts, ahead}
use Rattle.store_moves.specs.Record.{told, page_of, still_with}
use Rattle.store_moves.specs.Next.{next_of, Changed, changes, not-next, refused as unchanged}
use Rattle.store_moves.specs.Calls.{renumber_of}
use Rattle.store_cut.specs.Lasting.{Lasting, page_in, Write, made_all, Run}
use Rattle.store_cut.specs.Writes.{text_of, steps_writes, closing_writes, turn_writes, put_writes}
use Rattle.store_cut.specs.Closing.{closing_rows, closing_sum}

-- ---- a call

-- a law, a number and octets; a number; the rest of a replace, which follows its put: the old number, and the one that was not in use
pub data Asks : Type 0 where
  put : ℕ → ℕ → List ℕ → Asks
  delete : ℕ → Asks
  swap : ℕ → ℕ → Asks

-- "then `delete` of the old one and `renumber`, in memory": the greetings that it leaves, over the table that the delete left
abbrev pub swap_of : List ℕ → List ℕ → ℕ → ℕ → Outcome → Changed
swap_of b t old new (refused w) = unchanged w
swap_of b t old new (leaves a) = renumber_of b (stored a.rows a.notes t) new old

-- where one of them refuses nothing is changed; else what is held counts as put first, as after a loading
abbrev pub swapped : Store → Store → Changed → Store
swapped s d (changes rows) = record { block = s.block; table = laid rows d.table; put = held rows; deleted = 0 }
swapped s d not-next = s
swapped s d (unchanged w) = s

-- what a call alone leaves of a store: g7110_store_put; g7110_store_delete; g7110_store_delete and g7110_store_renumber
abbrev pub asked : Asks → Store → Store
asked (put law number xs) s = see (putting law number xs) s
asked (delete number) s = see (deleting number) s
asked (swap old new) s = swapped s (see (deleting old) s) (swap_of s.block s.table old new (delete_of s.block s.table old))

-- "where it reports octets moved, moves until `next` has none": their writes, and the greetings after them
unfoldable pub closes_up : ℕ → Lasting → List Row → List Note → List Write
closes_up moved l rows notes = cond (eqb moved 0) [] (closing_writes (length rows) (page_of l.words) l rows notes (next_of rows))

unfoldable pub rows_then_by : ℕ → List Row → List Row
rows_then_by moved rows = cond (eqb moved 0) rows (closing_rows (length rows) rows (next_of rows))

-- "then `put`, which moves nothing now ..; the text to the other page; record := (1 − page, 0, ..)"
unfoldable pub put_then : Lasting → List Row → List Note → ℕ → ℕ → List ℕ → List Write
put_then l rows notes law number xs =
    put_writes (page_of l.words) l.block rows notes law number xs (lowest_gap (length xs) (size_of l.block) rows)

unfoldable pub put_by : ℕ → Lasting → List Row → List Note → ℕ → ℕ → List ℕ → List Write
put_by moved l rows notes law number xs =
    let ws = closes_up moved l rows notes in
    ws ++ put_then (made_all ws l) (rows_then_by moved rows) notes law number xs

-- "a put: `try`; where it refuses, nothing is written"
unfoldable pub putting_writes : Lasting → Store → ℕ → ℕ → List ℕ → Outcome → List Write
putting_writes l s law number xs (refused w) = []
putting_writes l s law number xs (leaves a) = put_by a.second l (rows_in s) (notes_for s) law number xs

-- "What a put tells is the start that `put` reports, and the moves' sum"
unfoldable pub sum_then : ℕ → List Row → ℕ
sum_then moved rows = cond (eqb moved 0) 0 (closing_sum (length rows) rows (next_of rows))

unfoldable pub last_put : ℕ → Lasting → List Row → List Note → ℕ → ℕ → List ℕ → Answer
last_put moved l rows notes law number xs =
    let m = made_all (closes_up moved l rows notes) l in
    answer_of (put_in m.block (size_of m.block) (rows_then_by moved rows) notes law number xs)

abbrev pub put_tells : Lasting → Store → ℕ → ℕ → List ℕ → Outcome → Answer
put_tells l s law number xs (refused w) = Err w
put_tells l s law number xs (leaves a) =
    Ok (first_of (last_put a.second l (rows_in s) (notes_for s) law number xs), sum_then a.second (rows_in s))

-- "a delete: where it refuses, nothing is written; the text to the other page, then the record"
unfoldable pub deleting_writes : Lasting → Outcome → List Write
deleting_writes l (refused w) = []
deleting_writes l (leaves a) = turn_writes (page_of l.words) (text_of (length l.block) a.rows a.notes)

-- "the text to the other page; the record"
unfoldable pub swapping_writes : Lasting → List Note → Changed → List Write
swapping_writes l notes (changes rows) = turn_writes (page_of l.words) (text_of (length l.block) rows notes)
swapping_writes l notes not-next = []
swapping_writes l notes (unchanged w) = []

abbrev pub writes_of : Asks → Lasting → Store → List Write
writes_of (put law number xs) l s = putting_writes l s law number xs (put_of s.block s.table law number xs)
writes_of (delete number) l s = deleting_writes l (delete_of s.block s.table number)
writes_of (swap old new) l s =
    swapping_writes l (notes_for (see (deleting old) s)) (swap_of s.block s.table old new (delete_of s.block s.table old))

-- ---- a start

-- "while the record is not still: a step (what it wrote, then the record)"
unfoldable pub start_writes : Lasting → List Write
start_writes l =
    let st = told l.block l.spare l.words in
    steps_writes (ahead st) (page_of l.words) (lasts l.block l.spare st)

-- cut any number of times, and at last made whole
pub data Started : Lasting → Lasting → Type 0 where
  start-made : {l : Lasting} → Started l (made_all (start_writes l) l)
  start-again : {l k m : Lasting} → Run (start_writes l) l k → Started k m → Started l m

-- "then `load` from the page in use", into a lent table
abbrev pub found : List ℕ → Lasting → Store
found t l = see (loading (page_in (page_of l.words) l)) (record { block = l.block; table = t; put = 0; deleted = 0 })

-- ---- calls, one after another

pub data Entry : Type 0 where
  uncut : Asks → Entry
  cut_in : Asks → Entry

-- a call and the start after it: what lasts before and after
pub data Goes (t : List ℕ) (l : Lasting) : Entry → Lasting → Type 0 where
  goes-uncut : {a : Asks} {m : Lasting} → Started (made_all (writes_of a l (found t l)) l) m → Goes t l (uncut a) m
  goes-cut : {a : Asks} {k m : Lasting} → Run (writes_of a l (found t l)) l k → Started k m → Goes t l (cut_in a) m

-- so it is for each entry: what lasts after the start of each is told beside it
pub data Each (P : Lasting → Entry → Lasting → Type 0) : Lasting → List Entry → List Lasting → Type 0 where
  no_more : {l : Lasting} → Each P l [] []
  and_then : {l m : Lasting} {e : Entry} {es : List Entry} {ms : List Lasting} → P l e m → Each P m es ms → Each P l (e ∷ es) (m ∷ ms)

-- ---- what is promised of each

-- the record is still, and the page in use is loaded
pub record Loaded (t : List ℕ) (l : Lasting) : Type 0 where
  pub still : l.words ≡ still_with (page_of l.words)
  pub after : After
  pub loads : load_of (page_in (page_of l.words) l) l.block t ≡ leaves after

abbrev pub contents_of : Store → List Kept
contents_of s = contents s.block (rows_in s)

-- "the same numbers, octets, laws, samples, marks"
pub record Same (r s : Store) : Type 0 where
  pub greetings : contents_of r ≡ contents_of s
  pub notes : notes_for r ≡ notes_for s

-- the starts too, and every octet of the block
pub record Alike (r s : Store) : Type 0 where
  pub block : r.block ≡ s.block
  pub rows : rows_in r ≡ rows_in s
  pub notes : notes_for r ≡ notes_for s

-- "the store is the one before the call that was cut or the one after it"; a call that was not cut leaves what it leaves alone
pub data Holds (t : List ℕ) (l : Lasting) : Entry → Lasting → Type 0 where
  as-made : {a : Asks} {m : Lasting} → Loaded t m → Alike (found t m) (asked a (found t l)) → Holds t l (uncut a) m
  as_before : {a : Asks} {m : Lasting} → Loaded t m → Same (found t m) (found t l) → Holds t l (cut_in a) m
  as-after : {a : Asks} {m : Lasting} → Loaded t m → Same (found t m) (asked a (found t l)) → Holds t l (cut_in a) m
