-- THE PROMISE, over any list of calls and cuts: `loses-none`. After each call and its start, itself cut any number of times, what is loaded
-- is the store before that call or the one after it; after it, and every octet of the block as the call alone leaves it, where it was not
-- cut. `from-fresh`: from a fresh store on, whatever its block, spare and other page hold.
use Prim.Native.Nat.{ℕ, ◌≤◌, ◌-◌, min}
use mathlib.Core.Path.{◌≡◌, refl, sym, ap, subst, ◌∙◌}
use mathlib.Core.List.{List, []}
use native.Mathlib.Omega.{arith}
use lib.ListN.{length}
use Rattle.store_rows.specs.declared.rows.Row.{Row}
use Rattle.store_rows.specs.Limits.{largest_block, size_of}
use Rattle.store_rows.specs.Rows.{held, Kept, contents}
use Rattle.store_rows.specs.Cells.{rows_of}
use Rattle.store_rows.proofs.Cells.{rows-laid}
use Rattle.store_greeting.specs.Marks.{Note}
use Rattle.store_notes.specs.Notes.{True}
use Rattle.store_notes.specs.Cells.{notes_of, stored}
use Rattle.store_notes.specs.Sane.{store_cells}
use Rattle.store.specs.declared.Refusal.{Refusal}
use Rattle.store.specs.Store.{Outcome, leaves, refused, After}
use Rattle.store.specs.Calls.{put_of, delete_of, table_after}
use Rattle.store_save.specs.Saved.{load_of}
use Rattle.store_promises.specs.Told.{putting, deleting, Store, rows_in, notes_for, see, put_first, none_deleted}
use Rattle.store_promises.specs.Kept.{Good, Along}
use Rattle.store_promises.proofs.Along.{along-length, length-contents}
use Rattle.store_promises.proofs.Granted.{Stored, stored_back, delete-back}
use Rattle.store_promises.proofs.Numbers.{Distinct}
use Rattle.store_promises.proofs.Promises.{Keeps, call_kept}
use Rattle.store_promises.proofs.Rising.{rising-nil}
use Rattle.store_moves.specs.declared.steps.State.{State}
use Rattle.store_moves.specs.declared.steps.State.TheVariants.{Still, Moving, Lifted}
use Rattle.store_moves.specs.Moves.{lasts, ahead}
use Rattle.store_moves.specs.Record.{told, page_of, words_of, still_with}
use Rattle.store_moves.specs.Next.{Changed, changes, not-next, refused as declined, renumber_in}
use Rattle.store_moves.specs.Calls.{renumber_of}
use Rattle.store_moves.proofs.Worded.{told-words}
use Rattle.store_cut.specs.Lasting.{Lasting, lasting, page_in, Write, made_all, Run, all}
use Rattle.store_cut.specs.Writes.{text_of, steps_writes, turn_writes}
use Rattle.store_cut.specs.Runs.{Asks, put, delete, swap, swap_of, swapped, asked, deleting_writes, swapping_writes, writes_of}
use Rattle.store_cut.specs.Runs.{start_writes, Started, start-made, start-again, found}
use Rattle.store_cut.specs.Runs.{Entry, uncut, cut_in, Goes, goes-uncut, goes-cut, Each, no_more, and_then, Loaded, contents_of, Same}
use Rattle.store_cut.specs.Runs.{Alike, Holds}
use Rattle.store_cut.specs.Runs.{as-made, as_before, as-after}
use Rattle.store_cut.proofs.Stands.{Says, empty, Stands, Bears}
use Rattle.store_cut.proofs.Cut.{Rests, rests-stands, rests-bears, says-loads, Either, before, after, start-cut, start-rests, turned}
use Rattle.store_cut.proofs.Cut.{turn-cut}
use Rattle.store_cut.proofs.Calls.{keeps-fine, fine-keeps, Made}
use Rattle.store_cut.proofs.Tables.{laid-notes, unchanged, renumber-keeps}
use Rattle.store_cut.proofs.Puts.{page-of, alike-rests, put-writes-cut, put-writes-made}

-- ---- what a start finds of greetings at rest

module _ {size page : ℕ} {K : List Kept} {N : List Note} {rows : List Row} {l : Lasting} (t : List ℕ) (z : Rests size K N page rows l)
    (g : Good K N) (m : True K N) (c : store_cells (min size largest_block) ≤ length t) where
  abbrev kept-so : After
  kept-so = record { block = l.block; rows = rows; notes = N; first = 0; second = 0 }

  text_in : load_of (page_in (page_of l.words) l) l.block t ≡ leaves kept-so
  text_in = says-loads l.block t (subst (λ (p : ℕ). Says size rows N (page_in p l)) (sym (page-of z)) z.text) z.fine g m c

  pub found-loaded : Loaded t l
  found-loaded = record { still = z.words ∙ ap (λ (p : ℕ). still_with p) (sym (page-of z)); after = kept-so; loads = text_in }

  abbrev by : Outcome → Store
  by o = record { block = l.block; table = table_after o t; put = put_first o 0; deleted = none_deleted o 0 }

  found-is : found t l ≡ record { block = l.block; table = stored rows N t; put = held rows; deleted = 0 }
  found-is = ap by text_in

  back : Stored rows N t
  back =
      let f = z.fine in
      let count : length N ≡ length rows = sym (along-length _ K N g) ∙ ap length (sym f.reads) ∙ length-contents l.block rows in
      let s : size_of l.block ≡ min size largest_block = ap (λ (y : ℕ). min y largest_block) f.long in
      stored_back l.block rows N t (rw s c) f.few count

  pub found_rows : rows_in (found t l) ≡ rows
  found_rows = ap rows_in found-is ∙ back.rows_are

  pub found-notes : notes_for (found t l) ≡ N
  found-notes = ap notes_for found-is ∙ back.notes-are

  pub found-reads : contents_of (found t l) ≡ K
  found-reads = ap (contents l.block) found_rows ∙ z.fine.reads

  pub found-keeps : Keeps size (found t l)
  found-keeps = subst (Keeps size) (sym found-is) (fine-keeps N l.block rows t z.fine g m c)

  pub found-rests : Rests size (contents_of (found t l)) (notes_for (found t l)) page (rows_in (found t l)) l
  found-rests = rw (found-reads, found-notes, found_rows) z

-- a store that a start has found, with all that calls keep
pub record Ready (size : ℕ) (t : List ℕ) (l : Lasting) : Type 0 where
  pub page : ℕ
  pub keeps : Keeps size (found t l)
  pub rests : Rests size (contents_of (found t l)) (notes_for (found t l)) page (rows_in (found t l)) l

pub ready : {size page : ℕ} {K : List Kept} {N : List Note} {rows : List Row} {l : Lasting} (t : List ℕ) → Rests size K N page rows l
    → Good K N → True K N → store_cells (min size largest_block) ≤ length t → Ready size t l
ready {page = page} t z g m c = record { page = page; keeps = found-keeps t z g m c; rests = found-rests t z g m c }

-- ---- a start

by_state : (page : ℕ) (b s : List ℕ) (st : State)
    → steps_writes (ahead st) (page_of (words_of page st)) (lasts b s st) ≡ steps_writes (ahead st) page (lasts b s st)
unfolding steps_writes ahead words_of
by_state page b s Still = refl
by_state page b s (Moving m) = refl
by_state page b s (Lifted m) = refl

-- its writes are the steps of the move that what lasts stands for
start_is : {size page : ℕ} {K : List Kept} {N : List Note} {st : State} {rows : List Row} {l : Lasting} → Stands size K N page st rows l
    → start_writes l ≡ steps_writes (ahead st) page (lasts l.block l.spare st)
unfolding start_writes
start_is {page = page} {st = st} {l = l} s =
    let b = l.block in
    let q = l.spare in
    let e : told b q l.words ≡ st = ap (λ (w : List ℕ). told b q w) s.words ∙ told-words b q page st s.small s.sane in
    ap (λ (x : State). steps_writes (ahead x) (page_of l.words) (lasts b q x)) e
    ∙ ap (λ (w : List ℕ). steps_writes (ahead st) (page_of w) (lasts b q st)) s.words ∙ by_state page b q st

-- at rest again
pub record Rested (size : ℕ) (K : List Kept) (N : List Note) (l : Lasting) : Type 0 where
  pub page : ℕ
  pub rows : List Row
  pub rests : Rests size K N page rows l

pub started-rests : {size : ℕ} {K : List Kept} {N : List Note} {l m : Lasting} → Started l m → Bears size K N l → Rested size K N m
started-rests {size} {K} {N} {l} start-made z =
    let e = start-rests (ahead z.state) z (omega arith) in
    subst (λ (ws : List Write). Rested size K N (made_all ws l)) (sym (start_is z.stands))
    (record { page = e.page; rows = z.rows; rests = e.rests })
started-rests {l = l} (start-again {k = k} r s) z =
    started-rests s (start-cut (ahead z.state) z (subst (λ (ws : List Write). Run ws l k) (start_is z.stands) r))

-- where all is still a start writes nothing
none_runs : {l k : Lasting} → Run [] l k → k ≡ l
none_runs all = refl

none-run : {l k : Lasting} {ws : List Write} → ws ≡ [] → Run ws l k → k ≡ l
none-run {l} {k} e r = none_runs (subst (λ (ws : List Write). Run ws l k) e r)

started-still : {l m : Lasting} → start_writes l ≡ [] → Started l m → m ≡ l
unfolding made_all
started-still {l} e start-made = ap (λ (ws : List Write). made_all ws l) e
started-still {l} e (start-again {k = k} r s) =
    let q = none-run e r in
    started-still (subst (λ (x : Lasting). start_writes x ≡ []) (sym q) e) s ∙ q

rests-started : {size page : ℕ} {K : List Kept} {N : List Note} {rows : List Row} {l m : Lasting} → Rests size K N page rows l → Started l m
    → m ≡ l
unfolding steps_writes ahead
rests-started z s = started-still (start_is (rests-stands z)) s

-- ---- a call, cut or made whole

module _ {size : ℕ} {t : List ℕ} {l : Lasting} (z : Ready size t l) where
  abbrev s : Store
  s = found t l

  delete-refused : (x : ℕ) {w : Refusal} → delete_of s.block s.table x ≡ refused w → Alike (see (deleting x) s) s
  delete-refused x e =
      record {
        block = refl;
        rows = ap (λ (o : Outcome). rows_of (table_after o s.table)) e;
        notes = ap (λ (o : Outcome). notes_of (table_after o s.table)) e;
      }

  -- the text that a delete writes
  delete-writes : (x : ℕ) {a : After} → delete_of s.block s.table x ≡ leaves a
      → deleting_writes l (leaves a) ≡ turn_writes z.page (text_of size (rows_in (see (deleting x) s)) (notes_for (see (deleting x) s)))
  unfolding deleting_writes
  delete-writes x {a} e =
      let b = delete-back s.block s.table x e in
      let rows_are = ap (λ (o : Outcome). rows_of (table_after o s.table)) e ∙ b.rows_are in
      let notes-are = ap (λ (o : Outcome). notes_of (table_after o s.table)) e ∙ b.notes-are in
      ap (λ (p : ℕ). turn_writes p (text_of (length l.block) a.rows a.notes)) (page-of z.rests)
      ∙ ap (λ (n : ℕ). turn_writes z.page (text_of n a.rows a.notes)) z.keeps.long
      ∙ ap (λ (rs : List Row). turn_writes z.page (text_of size rs a.notes)) (sym rows_are)
      ∙ ap (λ (ns : List Note). turn_writes z.page (text_of size (rows_in (see (deleting x) s)) ns)) (sym notes-are)

  delete-cut : {k : Lasting} (x : ℕ) (o : Outcome) → delete_of s.block s.table x ≡ o → Run (deleting_writes l o) l k
      → Either (Bears size (contents_of s) (notes_for s) k) (Bears size (contents_of (see (deleting x) s)) (notes_for (see (deleting x) s)) k)
  unfolding deleting_writes
  delete-cut x (refused w) e all = before (rests-bears z.rests)
  delete-cut {k} x (leaves a) e r =
      turn-cut z.rests (keeps-fine (call_kept size (deleting x) s z.keeps))
      (subst (λ (ws : List Write). Run ws l k) (delete-writes x e) r)

  delete-made : (x : ℕ) (o : Outcome) → delete_of s.block s.table x ≡ o
      → Made size (see (deleting x) s) (made_all (deleting_writes l o) l)
  unfolding deleting_writes made_all
  delete-made x (refused w) e = record { page = z.page; rests = alike-rests (delete-refused x e) z.rests; block = refl }
  delete-made x (leaves a) e =
      subst (λ (ws : List Write). Made size (see (deleting x) s) (made_all ws l)) (sym (delete-writes x e))
      (record { page = 1 - z.page; rests = turned z.rests (keeps-fine (call_kept size (deleting x) s z.keeps)); block = refl })

  -- the rest of a replace
  abbrev pub gone : ℕ → Store
  gone old = see (deleting old) s

  -- what a swap that is made has passed
  pub swap-deleted : (old new : ℕ) {rows : List Row} (o : Outcome) → delete_of s.block s.table old ≡ o
      → swap_of s.block s.table old new o ≡ changes rows → renumber_in (rows_in (gone old)) new old ≡ changes rows
  swap-deleted old new (refused w) e h = unchanged h
  swap-deleted old new {rows} (leaves a) e h =
      let k = call_kept size (deleting old) s z.keeps in
      let t₁ : (gone old).table ≡ stored a.rows a.notes s.table = ap (λ (o : Outcome). table_after o s.table) e in
      rw k.sane at (subst (λ (t : List ℕ). renumber_of s.block t new old ≡ changes rows) (sym t₁) h)

  swap-keeps : (old new : ℕ) (c : Changed) → swap_of s.block s.table old new (delete_of s.block s.table old) ≡ c
      → Keeps size (swapped s (gone old) c)
  swap-keeps old new (changes rows) e =
      renumber-keeps new old (call_kept size (deleting old) s z.keeps) (swap-deleted old new (delete_of s.block s.table old) refl e)
  swap-keeps old new not-next e = z.keeps
  swap-keeps old new (declined w) e = z.keeps

  swap-writes : (old : ℕ) (rows : List Row) → length rows ≤ 32 → swapping_writes l (notes_for (gone old)) (changes rows)
      ≡ turn_writes z.page (text_of size (rows_in (swapped s (gone old) (changes rows))) (notes_for (swapped s (gone old) (changes rows))))
  unfolding swapping_writes
  swap-writes old rows few =
      ap (λ (p : ℕ). turn_writes p (text_of (length l.block) rows (notes_for (gone old)))) (page-of z.rests)
      ∙ ap (λ (n : ℕ). turn_writes z.page (text_of n rows (notes_for (gone old)))) z.keeps.long
      ∙ ap (λ (rs : List Row). turn_writes z.page (text_of size rs (notes_for (gone old)))) (sym (rows-laid rows (gone old).table))
      ∙ ap (λ (ns : List Note). turn_writes z.page (text_of size (rows_in (swapped s (gone old) (changes rows))) ns))
      (sym (laid-notes rows (gone old).table few))

  swap-few : (old : ℕ) (rows : List Row) → Keeps size (swapped s (gone old) (changes rows)) → length rows ≤ 32
  swap-few old rows k = omega (arith, (keeps-fine k).few, ap length (rows-laid rows (gone old).table))

  swap-cut : {k : Lasting} (old : ℕ) (c : Changed) → Keeps size (swapped s (gone old) c)
      → Run (swapping_writes l (notes_for (gone old)) c) l k
      → Either (Bears size (contents_of s) (notes_for s) k)
      (Bears size (contents_of (swapped s (gone old) c)) (notes_for (swapped s (gone old) c)) k)
  unfolding swapping_writes
  swap-cut {k} old (changes rows) m r =
      turn-cut z.rests (keeps-fine m) (subst (λ (ws : List Write). Run ws l k) (swap-writes old rows (swap-few old rows m)) r)
  swap-cut old not-next m all = before (rests-bears z.rests)
  swap-cut old (declined w) m all = before (rests-bears z.rests)

  swap-made : (old : ℕ) (c : Changed) → Keeps size (swapped s (gone old) c)
      → Made size (swapped s (gone old) c) (made_all (swapping_writes l (notes_for (gone old)) c) l)
  unfolding swapping_writes made_all
  swap-made old (changes rows) m =
      subst (λ (ws : List Write). Made size (swapped s (gone old) (changes rows)) (made_all ws l))
      (sym (swap-writes old rows (swap-few old rows m)))
      (record { page = 1 - z.page; rests = turned z.rests (keeps-fine m); block = refl })
  swap-made old not-next m = record { page = z.page; rests = z.rests; block = refl }
  swap-made old (declined w) m = record { page = z.page; rests = z.rests; block = refl }

  pub call-cut : {k : Lasting} (a : Asks) → Run (writes_of a l s) l k
      → Either (Bears size (contents_of s) (notes_for s) k) (Bears size (contents_of (asked a s)) (notes_for (asked a s)) k)
  call-cut (put law x xs) r = put-writes-cut z.keeps law x xs z.rests refl (put_of s.block s.table law x xs) refl r
  call-cut (delete x) r = delete-cut x (delete_of s.block s.table x) refl r
  call-cut (swap old new) r =
      let c = swap_of s.block s.table old new (delete_of s.block s.table old) in
      swap-cut old c (swap-keeps old new c refl) r

  pub call-made : (a : Asks) → Made size (asked a s) (made_all (writes_of a l s) l)
  call-made (put law x xs) = put-writes-made z.keeps law x xs z.rests refl (put_of s.block s.table law x xs) refl
  call-made (delete x) = delete-made x (delete_of s.block s.table x) refl
  call-made (swap old new) =
      let c = swap_of s.block s.table old new (delete_of s.block s.table old) in
      swap-made old c (swap-keeps old new c refl)

  pub asked-keeps : (a : Asks) → Keeps size (asked a s)
  asked-keeps (put law x xs) = call_kept size (putting law x xs) s z.keeps
  asked-keeps (delete x) = call_kept size (deleting x) s z.keeps
  asked-keeps (swap old new) = swap-keeps old new (swap_of s.block s.table old new (delete_of s.block s.table old)) refl

-- ---- each call and its start

module _ {size : ℕ} {t : List ℕ} {l : Lasting} (z : Ready size t l) (c : store_cells (min size largest_block) ≤ length t) where
  -- what a start finds of what bears a store
  finds : {r : Store} {m : Lasting} → Keeps size r → Rested size (contents_of r) (notes_for r) m
      → Ready size t m × Loaded t m × Same (found t m) r
  finds k e = (
    ready t e.rests k.good k.marks c,
    found-loaded t e.rests k.good k.marks c,
    record { greetings = found-reads t e.rests k.good k.marks c; notes = found-notes t e.rests k.good k.marks c },
  )

  made_holds : {m : Lasting} (a : Asks) → Made size (asked a (found t l)) m → Ready size t m × Holds t l (uncut a) m
  made_holds a e =
      let k = asked-keeps z a in (
        ready t e.rests k.good k.marks c,
        as-made (found-loaded t e.rests k.good k.marks c) (record {
          block = e.block;
          rows = found_rows t e.rests k.good k.marks c;
          notes = found-notes t e.rests k.good k.marks c;
        }),
      )

  pub entry-holds : {m : Lasting} {e : Entry} → Goes t l e m → Ready size t m × Holds t l e m
  entry-holds (goes-uncut {a} s) =
      let d = call-made z a in
      subst (λ (m : Lasting). Ready size t m × Holds t l (uncut a) m) (sym (rests-started d.rests s)) (made_holds a d)
  entry-holds {m} (goes-cut {a} {k} r s) = go (call-cut z a r)
    where
      go : Either (Bears size (contents_of (found t l)) (notes_for (found t l)) k)
          (Bears size (contents_of (asked a (found t l))) (notes_for (asked a (found t l))) k)
          → Ready size t m × Holds t l (cut_in a) m
      go (before y) = let f = finds z.keeps (started-rests s y) in (f.0, as_before f.1 f.2)
      go (after y) = let f = finds (asked-keeps z a) (started-rests s y) in (f.0, as-after f.1 f.2)

-- THE PROMISE
pub loses-none : {size : ℕ} {t : List ℕ} {l : Lasting} {es : List Entry} {ms : List Lasting} → store_cells (min size largest_block) ≤ length t
    → Ready size t l → Each (Goes t) l es ms → Each (Holds t) l es ms
loses-none c z no_more = no_more
loses-none c z (and_then g more) =
    let h = entry-holds z c g in
    and_then h.1 (loses-none c h.0 more)

-- "a fresh store: page 0 has the empty text; page 1, the spare and the block hold anything"; the record is all 0
fresh-rests : (b s q : List ℕ) → Rests (length b) [] [] 0 [] (lasting b s [] q (still_with 0))
unfolding contents Distinct
fresh-rests b s q =
    record {
      small = omega arith;
      words = refl;
      text = empty refl refl refl;
      fine =
          record { long = refl; few = omega arith; rises = rising-nil 1 0 (min (length b) largest_block); apart = tt; reads = refl };
    }

pub from-fresh : (b s q t : List ℕ) {es : List Entry} {ms : List Lasting} → store_cells (size_of b) ≤ length t
    → Each (Goes t) (lasting b s [] q (still_with 0)) es ms → Each (Holds t) (lasting b s [] q (still_with 0)) es ms
unfolding Along True
from-fresh b s q t c r = loses-none c (ready t (fresh-rests b s q) tt tt c) r
