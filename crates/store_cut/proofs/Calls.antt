-- The promise over the calls of a store, whatever list of calls has left it (crates/store_promises, `Keeps`).
--   `keeps-fine`, `fine-keeps`: a store that calls left, in a block; and back, so that calls may follow a start.
--   `delete-promise`, `put-promise`: at every cut of a delete or a put that finds a gap, what is loaded is the store before or after it.
--   `last-cut`, `last_made`: the last writes of a put, cut or made whole, from a gap or behind greetings that have closed up (`Laid`).
use Prim.Native.Nat.{ℕ, ◌-◌, ◌≤◌, min}
use mathlib.Core.Path.{◌≡◌, refl, sym, ap, subst, ◌∙◌}
use mathlib.Core.List.{List}
use mathlib.Core.Bool.{true}
use native.Mathlib.Omega.{arith}
use lib.ListN.{length, get_or}
use Rattle.store_rows.specs.declared.rows.Row.{Row}
use Rattle.std.specs.Prelude.{Option, Some, None}
use Rattle.store_rows.specs.Limits.{largest_block, size_of}
use Rattle.store_rows.specs.Rows.{row_of, held, Kept, contents}
use Rattle.store_rows.specs.Finding.{lowest_gap}
use Rattle.store_rows.specs.Cells.{rows_of}
use Rattle.store_rows.specs.Sane.{rising}
use Rattle.store_rows.specs.Changed.{insert_at, written}
use Rattle.store_rows.specs.Closing.{closed_rows, closed_block}
use Rattle.store_rows.proofs.Cells.{length-rows}
use Rattle.store_greeting.specs.Marks.{Note, note_of}
use Rattle.store_notes.specs.Notes.{True, insert_note}
use Rattle.store_notes.specs.Cells.{notes_of, stored}
use Rattle.store_notes.specs.Sane.{store_cells}
use Rattle.store.specs.Store.{Outcome, leaves, After, put_at}
use Rattle.store.specs.Calls.{put_of, block_after, table_after}
use Rattle.store_promises.specs.Told.{putting, deleting, Store, rows_in, notes_for, see}
use Rattle.store_promises.specs.Kept.{Good}
use Rattle.store_promises.proofs.Along.{along-length, length-contents}
use Rattle.store_promises.proofs.Rising.{rising-any}
use Rattle.store_promises.proofs.Granted.{sane-rows, sane-distinct, stored-sane, stored_back, put-granted, put_back}
use Rattle.store_promises.proofs.Loaded.{true-matched}
use Rattle.store_promises.proofs.Promises.{Keeps, call_kept}
use Rattle.store_cut.specs.Lasting.{Lasting, lasting, made_all, Run}
use Rattle.store_cut.specs.Writes.{text_of, turn_writes, put_writes}
use Rattle.store_cut.specs.Runs.{contents_of}
use Rattle.store_cut.proofs.Stands.{Fine, Bears}
use Rattle.store_cut.proofs.Cut.{Rests, Either, before, after, Loads, turn-cut, put-cut, put-made, cut-loads}

pub keeps-fine : {size : ℕ} {s : Store} → Keeps size s → Fine size (contents_of s) s.block (rows_in s)
keeps-fine {size} {s} k =
    let o = sane-rows (size_of s.block) s.table k.sane in
    record {
      long = k.long;
      few = omega (arith, length-rows s.table (get_or s.table 0 0) 1, o.few);
      rises = subst (λ (y : ℕ). rising 1 0 (min y largest_block) (rows_in s) ≡ true) k.long o.rises;
      apart = sane-distinct (size_of s.block) s.table k.sane;
      reads = refl;
    }

pub fine-keeps : {size : ℕ} {K : List Kept} (N : List Note) (b : List ℕ) (rows : List Row) (t : List ℕ) → Fine size K b rows → Good K N
    → True K N → store_cells (min size largest_block) ≤ length t
    → Keeps size (record { block = b; table = stored rows N t; put = held rows; deleted = 0 })
fine-keeps {size} {K} N b rows t f g m c =
    let s : min size largest_block ≡ size_of b = ap (λ (y : ℕ). min y largest_block) (sym f.long) in
    let g' = subst (λ (ks : List Kept). Good ks N) (sym f.reads) g in
    let m' = subst (λ (ks : List Kept). True ks N) (sym f.reads) m in
    let h = subst (λ (y : ℕ). rising 1 0 y rows ≡ true) s f.rises in
    let cells = subst (λ (y : ℕ). store_cells y ≤ length t) s c in
    let count : length N ≡ length rows = sym (along-length _ K N g) ∙ ap length (sym f.reads) ∙ length-contents b rows in
    let z = stored_back b rows N t cells f.few count in
    record {
      sane =
          stored-sane b rows N t cells f.few h f.apart count
          (true-matched b 0 (size_of b) rows N (rising-any 0 (size_of b) rows h) (omega arith) g' m');
      long = f.long;
      good = rw (z.rows_are, z.notes-are) g';
      marks = rw (z.rows_are, z.notes-are) m';
      total = rw z.rows_are (omega arith);
    }

-- a delete
pub delete-promise : {size page : ℕ} {s : Store} (sp p q w : List ℕ) {l' : Lasting} (k : Keeps size s) (x : ℕ)
    → Rests size (contents_of s) (notes_for s) page (rows_in s) (lasting s.block sp p q w)
    → Run (turn_writes page (text_of size (rows_in (see (deleting x) s)) (notes_for (see (deleting x) s)))) (lasting s.block sp p q w) l'
    → (t : List ℕ) → store_cells (min size largest_block) ≤ length t
    → Either (Loads (contents_of s) (notes_for s) l' t) (Loads (contents_of (see (deleting x) s)) (notes_for (see (deleting x) s)) l' t)
delete-promise {size} {page} {s} sp p q w k x z r t c =
    let k' = call_kept size (deleting x) s k in
    cut-loads k.good k.marks k'.good k'.marks t c (turn-cut z (keeps-fine k') r)

-- ---- a put

-- what an accepted put alone leaves, as its table is read again
module _ (s : Store) (law x : ℕ) (xs : List ℕ) {a : After} (e : put_of s.block s.table law x xs ≡ leaves a) where
  abbrev next : Store
  next = see (putting law x xs) s

  table : next.table ≡ stored a.rows a.notes s.table
  table = ap (λ (o : Outcome). table_after o s.table) e

  pub next-block : next.block ≡ a.block
  next-block = ap (λ (o : Outcome). block_after o s.block) e

  pub next-rows : rows_in next ≡ a.rows
  next-rows = ap rows_of table ∙ (put_back s.block s.table law x xs e).rows_are

  pub next-notes : notes_for next ≡ a.notes
  next-notes = ap notes_of table ∙ (put_back s.block s.table law x xs e).notes-are

-- it is these greetings in this block, with the new one written at a place
pub record Laid (law x : ℕ) (xs : List ℕ) (s : Store) (b : List ℕ) (rows : List Row) (i at : ℕ) : Type 0 where
  pub block : (see (putting law x xs) s).block ≡ written b at xs
  pub rows_are : rows_in (see (putting law x xs) s) ≡ insert_at i (row_of x at (length xs)) rows
  pub notes : notes_for (see (putting law x xs) s) ≡ insert_note i (note_of law xs) (notes_for s)

-- in a gap, and behind all that have closed up
pub laid-gap : {s : Store} (law x : ℕ) (xs : List ℕ) {a : After} {i at : ℕ} → put_of s.block s.table law x xs ≡ leaves a
    → Some (i, at) ≡ lowest_gap (length xs) (size_of s.block) (rows_in s) → Laid law x xs s s.block (rows_in s) i at
laid-gap {s} law x xs e g =
    let is = (put-granted s.block s.table law x xs _ e).is
    ∙ ap (λ (d : Option (ℕ × ℕ)). put_at s.block (rows_in s) (notes_for s) law x xs d) (sym g) in
    record {
      block = next-block s law x xs e ∙ ap (λ (y : After). y.block) is;
      rows_are = next-rows s law x xs e ∙ ap (λ (y : After). y.rows) is;
      notes = next-notes s law x xs e ∙ ap (λ (y : After). y.notes) is;
    }

pub laid-behind : {s : Store} (law x : ℕ) (xs : List ℕ) {a : After} → put_of s.block s.table law x xs ≡ leaves a
    → None ≡ lowest_gap (length xs) (size_of s.block) (rows_in s)
    → Laid law x xs s (closed_block s.block (rows_in s)) (closed_rows 0 (rows_in s)) (length (rows_in s)) (held (rows_in s))
laid-behind {s} law x xs e g =
    let is = (put-granted s.block s.table law x xs _ e).is
    ∙ ap (λ (d : Option (ℕ × ℕ)). put_at s.block (rows_in s) (notes_for s) law x xs d) (sym g) in
    record {
      block = next-block s law x xs e ∙ ap (λ (y : After). y.block) is;
      rows_are = next-rows s law x xs e ∙ ap (λ (y : After). y.rows) is;
      notes = next-notes s law x xs e ∙ ap (λ (y : After). y.notes) is;
    }

-- at rest, for this store, with every octet of its block
pub record Made (size : ℕ) (s : Store) (l : Lasting) : Type 0 where
  pub page : ℕ
  pub rests : Rests size (contents_of s) (notes_for s) page (rows_in s) l
  pub block : l.block ≡ s.block

-- the last writes of a put: its octets, the text, the record
module _ {size page : ℕ} {s : Store} {rows : List Row} {l : Lasting} (k : Keeps size s) (law x : ℕ) (xs : List ℕ) {i at : ℕ}
    (z : Rests size (contents_of s) (notes_for s) page rows l) (g : Some (i, at) ≡ lowest_gap (length xs) (min size largest_block) rows)
    (w : Laid law x xs s l.block rows i at) where
  abbrev then : Store
  then = see (putting law x xs) s

  abbrev new : List Row
  new = insert_at i (row_of x at (length xs)) rows

  kept_next : Keeps size then
  kept_next = call_kept size (putting law x xs) s k

  fine-next : Fine size (contents (written l.block at xs) new) (written l.block at xs) new
  fine-next =
      subst (λ (y : List ℕ). Fine size (contents y new) y new) w.block
      (subst (λ (rs : List Row). Fine size (contents then.block rs) then.block rs) w.rows_are (keeps-fine kept_next))

  same : contents (written l.block at xs) new ≡ contents_of then
  same = ap (λ (y : List ℕ). contents y new) (sym w.block) ∙ ap (λ (rs : List Row). contents then.block rs) (sym w.rows_are)

  told : {l' : Lasting} {A : Type 0}
      → Either A (Bears size (contents (written l.block at xs) new) (insert_note i (note_of law xs) (notes_for s)) l')
      → Either A (Bears size (contents_of then) (notes_for then) l')
  told (before y) = before y
  told {l'} (after y) =
      after (subst (λ (n : List Note). Bears size (contents_of then) n l') (sym w.notes)
      (subst (λ (ks : List Kept). Bears size ks (insert_note i (note_of law xs) (notes_for s)) l') same y))

  pub last-cut : {l' : Lasting} → Run (put_writes page l.block rows (notes_for s) law x xs (Some (i, at))) l l'
      → Either (Bears size (contents_of s) (notes_for s) l') (Bears size (contents_of then) (notes_for then) l')
  last-cut r = told (put-cut z law x xs g fine-next r)

  pub last_made : Made size then (made_all (put_writes page l.block rows (notes_for s) law x xs (Some (i, at))) l)
  unfolding made_all
  last_made =
      let m = made_all (put_writes page l.block rows (notes_for s) law x xs (Some (i, at))) l in
      record {
        page = 1 - page;
        rests =
            subst (λ (ks : List Kept). Rests size ks (notes_for then) (1 - page) (rows_in then) m) same
            (subst (λ (n : List Note). Rests size (contents (written l.block at xs) new) n (1 - page) (rows_in then) m) (sym w.notes)
            (subst (λ (rs : List Row). Rests size (contents (written l.block at xs) new) (insert_note i (note_of law xs) (notes_for s))
            (1 - page) rs m) (sym w.rows_are) (put-made z law x xs g fine-next)));
        block = sym w.block;
      }

-- a put that finds a gap
pub put-promise : {size page : ℕ} {s : Store} {l l' : Lasting} (k : Keeps size s) (law x : ℕ) (xs : List ℕ) {a : After} {i at : ℕ}
    → put_of s.block s.table law x xs ≡ leaves a → Some (i, at) ≡ lowest_gap (length xs) (size_of s.block) (rows_in s)
    → s.block ≡ l.block → Rests size (contents_of s) (notes_for s) page (rows_in s) l
    → Run (put_writes page l.block (rows_in s) (notes_for s) law x xs (Some (i, at))) l l'
    → (t : List ℕ) → store_cells (min size largest_block) ≤ length t
    → Either (Loads (contents_of s) (notes_for s) l' t)
    (Loads (contents_of (see (putting law x xs) s)) (notes_for (see (putting law x xs) s)) l' t)
put-promise {size} {page} {s} {l} k law x xs {a} {i} {at} e g b z r t c =
    let gap = subst (λ (y : ℕ). Some (i, at) ≡ lowest_gap (length xs) (min y largest_block) (rows_in s)) k.long g in
    let w = subst (λ (y : List ℕ). Laid law x xs s y (rows_in s) i at) b (laid-gap law x xs e g) in
    let k' = call_kept size (putting law x xs) s k in
    cut-loads k.good k.marks k'.good k'.marks t c (last-cut k law x xs z gap w r)
