-- Document 02, R-6 and R-8, over any list of calls from a fresh block (`Keeps`, `all-kept`). From R-8 on a put has a law, and with each
-- greeting goes its note; R-6's promises are about the same greetings as before.
--   `held-total`: octets held equal all octets put less all octets deleted; after a loading its greetings count as first puts.
--   `all-sane`, `never-table`: every call leaves a table that calls leave, so TABLE does not arise from calls alone.
--   `marks-true`, `notes-count`: law, samples and marks of each greeting are what the walk gives; as many notes as greetings.
--   `all-marks-fit`: the marks of all greetings fit the cells.     `Notes`: each number's note, after each call.
--   `put-reads-new`, `put-reads-others`, `delete-reads-none`, `delete-reads-others`: every other greeting reads the same after each call.
--   `get-reads`, `get-after-put`, `walk-after-put`: a get after a put gives back the octets, and the walk over them is what it was.
--   `noroom-is`, `noroom-only`: NOROOM exactly when no earlier refusal is and the octets held plus the new ones exceed the size.
--   `put_lowest`: a put takes the lowest gap that holds it.     `Moved.put-moved`, `Stays.put-stays`: octets moved, octets that stay.
--   `saved-loads`, `save-writes`, `what-save-writes`: what save writes, load takes, and gives the same greetings, laws, samples and marks.
--   `early-loads`, `early-saved`: R-6's lines load by the walk as law 1, and are saved as R-8's.     `Loaded`: the order TABLE, BAD, TABLE.
use Prim.Native.Nat.{ℕ, ◌+◌, ◌*◌, ◌≤◌, ◌<◌}
use mathlib.Core.Path.{◌≡◌, refl, sym, ap, subst, ◌∙◌}
use mathlib.Core.List.{List, [], ◌∷◌, ◌++◌}
use mathlib.Core.Bool.{Bool, true, false}
use native.Mathlib.Omega.{arith}
use lib.ListN.{length, take, drop, get_or, replicate, length-replicate, get_or-replicate, take-append-drop}
use lib.Seq.{get_or-drop}
use borrow.Author.Tests.{le-ltb, lt-ltb, ltb-true, leb-false, lt-leb}
use Rattle.rules.specs.Judged.{judged}
use Rattle.rules.specs.Tools.{is_law}
use Rattle.rules.specs.Walk.{walk_all}
use Rattle.store_rows.specs.declared.rows.Row.{Row}
use Rattle.std.specs.Prelude.{Option, Some}
use Rattle.store_rows.specs.Limits.{size_of, is_number}
use Rattle.store_rows.specs.Rows.{held, greeting, Kept, contents}
use Rattle.store_rows.specs.Finding.{absent, find_from, lowest_gap}
use Rattle.store_rows.specs.Cells.{rows_at, rows_of}
use Rattle.store_rows.specs.Sane.{rising, numbered, sane_of}
use Rattle.store_rows.specs.Changed.{nth}
use Rattle.store_greeting.specs.Bad.{is_bad}
use Rattle.store_greeting.specs.Marks.{Note, note_of}
use Rattle.store_notes.specs.Notes.{True, nth_note, insert_note}
use Rattle.store_notes.specs.Cells.{heads_of, notes_in, notes_of, marks_held, stored}
use Rattle.store_notes.specs.Sane.{store_cells, matched, sane_store}
use Rattle.store_notes.proofs.Matched.{marks-fit, sane-noted}
use Rattle.store.specs.declared.Refusal.TheVariants.{NoRoom, Table}
use Rattle.store.specs.Store.{Outcome, leaves, refused, After, fitted, put_asks, put_in, find_asks, get_in, delete_in, gotten, without}
use Rattle.store.specs.Calls.{put_order, put_of, get_of, delete_of, block_after, table_after}
use Rattle.store.proofs.Only.{outcome-refused}
use Rattle.text_keyvalue.specs.Reading.{whole, none}
use Rattle.store_text.specs.Table.{table_in}
use Rattle.store_text.specs.Noted.{Listed, listing}
use Rattle.store_text.specs.Form.{saved_text, formed_in}
use Rattle.store_save.specs.Saved.{saved, declined, room_ask, save_in, save_of, early, load_of}
use Rattle.store_save.proofs.Fits.{text-saved, text-declined}
use Rattle.store_rows.proofs.Cells.{length-rows}
use Rattle.store_promises.specs.Told.{Call, putting, getting, deleting, saving, loading, Store, rows_in, notes_for, see, see_all, fresh}
use Rattle.store_promises.specs.Told.{put_more, put_first, none_deleted}
use Rattle.store_promises.specs.Loading.{in-early, in-noted, loaded}
use Rattle.store_promises.specs.Kept.{here, missing, look_up, Along, IsGood, Good, Clear}
use Rattle.store_promises.proofs.Numbers.{FoundAt, fresh-of, fresh-append, distinct-behind}
use Rattle.store_promises.proofs.Along.{length-contents, along-inserted, along-removed, IsTrue, true-along, along-true}
use Rattle.store_promises.proofs.Rising.{held-within}
use Rattle.store_promises.proofs.Contents.{kept, contents-append, contents-cons}
use Rattle.store_promises.proofs.Gaps.{Bounds, gap-lowest, gap-split, split-clear}
use Rattle.store_promises.proofs.Granted.{put-granted, put-sane, put_back, put-length, put-held, put_reads, put-fresh, good-some}
use Rattle.store_promises.proofs.Granted.{sane-rows, sane-distinct, sane-count, Stored}
use Rattle.store_promises.proofs.Granted.{delete-parts, delete-taken, delete-notes, delete-back}
use Rattle.store_promises.proofs.Granted.{delete-gone, delete-block, delete-rows, delete-held, delete-sane, get-got, get-of}
use Rattle.store_promises.proofs.Looked.{fresh-missing, look-put, look-other, look_none, contents-split}
use Rattle.store_promises.proofs.Loaded.{lists-one, load-took, load-good, load-true, load-back, load-sane}
use Rattle.store_promises.proofs.Listed.{listing-listed}
use Rattle.store_promises.proofs.Sayable.{load-of}

-- EVERY OTHER GREETING READS THE SAME
module _ (b t : List ℕ) (law x : ℕ) (xs : List ℕ) {a : After} (e : put_of b t law x xs ≡ leaves a) where
  pub put-reads-new : look_up x (contents a.block a.rows) ≡ here xs
  put-reads-new =
      let r = put_reads b t law x xs e in
      let rows = rows_of t in
      let i = r.place in
      let f = (fresh-append x (take i rows) (drop i rows) (rw (take-append-drop i rows) (put-fresh b t law x xs e))).0 in
      rw r.is (look-put x xs (contents b (take i rows)) (contents b (drop i rows)) (fresh-missing x b (take i rows) f))

  pub put-reads-others : (y : ℕ) → (x ≡ y → ⊥) → look_up y (contents a.block a.rows) ≡ look_up y (contents b (rows_of t))
  put-reads-others y n =
      let r = put_reads b t law x xs e in
      let rows = rows_of t in
      let i = r.place in
      rw r.is (look-other y x xs (contents b (take i rows)) (contents b (drop i rows)) n ∙ ap (look_up y) (contents-split b i rows))

  -- each pair of a greeting and its note stays so, if the new one is
  put_along : (p : Kept → Note → Type 0) → p (kept x xs) (note_of law xs) → Along p (contents b (rows_of t)) (notes_of t)
      → Along p (contents a.block a.rows) a.notes
  put_along p new h =
      let r = put_reads b t law x xs e in
      let same = sane-count b t (put-granted b t law x xs a e).sane in
      let q = along-inserted p b r.place (rows_of t) (notes_of t) (kept x xs) (note_of law xs) same new h in
      let w = subst (λ (ks : List Kept). Along p ks (insert_note r.place (note_of law xs) (notes_of t))) (sym r.is) q in
      subst (Along p (contents a.block a.rows)) (sym r.notes) w

module _ (b t : List ℕ) (x : ℕ) {a : After} (e : delete_of b t x ≡ leaves a) where
  abbrev found : FoundAt x 0 (rows_of t)
  found = (delete-gone b t x a e).found

  whole-contents : contents b (rows_of t)
      ≡ contents b found.before ++ (kept found.row.number (greeting b found.row) ∷ contents b found.behind)
  whole-contents =
      ap (contents b) found.is ∙ contents-append b found.before (found.row ∷ found.behind)
      ∙ ap (λ (l : List Kept). contents b found.before ++ l) (contents-cons b found.row found.behind)

  left-contents : contents a.block a.rows ≡ contents b found.before ++ contents b found.behind
  left-contents =
      ap (λ (y : List ℕ). contents y a.rows) (delete-block b t x e) ∙ ap (contents b) (delete-rows b t x e)
      ∙ contents-append b found.before found.behind

  pub delete-reads-none : look_up x (contents a.block a.rows) ≡ missing
  delete-reads-none =
      let d = sane-distinct (size_of b) t (delete-gone b t x a e).sane in
      let f = distinct-behind found.before found.row found.behind (rw found.is at d) in
      let g = rw found.number at f in
      rw left-contents (look_none x (contents b found.before) (contents b found.behind)
      (fresh-missing x b found.before g.0) (fresh-missing x b found.behind g.1))

  pub delete-reads-others : (y : ℕ) → (x ≡ y → ⊥) → look_up y (contents a.block a.rows) ≡ look_up y (contents b (rows_of t))
  delete-reads-others y n =
      let m : found.row.number ≡ y → ⊥ = λ q. n (sym found.number ∙ q) in
      rw (left-contents, whole-contents)
      (sym (look-other y found.row.number (greeting b found.row) (contents b found.before) (contents b found.behind) m))

  delete-along : (p : Kept → Note → Type 0) → Along p (contents b (rows_of t)) (notes_of t)
      → Along p (contents a.block a.rows) a.notes
  delete-along p h =
      let k = kept found.row.number (greeting b found.row) in
      let n = nth_note (length found.before) (notes_of t) in
      let before = take (length found.before) (notes_of t) in
      let behind = drop (length found.before + 1) (notes_of t) in
      let l : length (contents b found.before) ≡ length before = length-contents b found.before ∙ sym (delete-taken b t x e) in
      let whole-notes = delete-parts b t x e in
      let left-notes = delete-notes b t x e in
      let g = subst (λ (ks : List Kept). Along p ks (notes_of t)) whole-contents h in
      let g₂ = subst (Along p (contents b found.before ++ (k ∷ contents b found.behind))) whole-notes g in
      let q = along-removed p (contents b found.before) k (contents b found.behind) before n behind l g₂ in
      let w = subst (λ (ks : List Kept). Along p ks (before ++ behind)) (sym left-contents) q in
      subst (Along p (contents a.block a.rows)) (sym left-notes) w

-- A GET tells where the octets kept under the number stand
pub get-reads : (b t : List ℕ) (x : ℕ) (a : After) → get_of b t x ≡ leaves a
    → look_up x (contents b (rows_of t)) ≡ here (take a.second (drop a.first b))
get-reads b t x a e =
    let g = get-got b t x a e in
    let f = g.found in
    let d = sane-distinct (size_of b) t g.sane in
    let n = rw f.number at (distinct-behind f.before f.row f.behind (rw f.is at d)) in
    let o = greeting b f.row in
    let w : contents b (rows_of t) ≡ contents b f.before ++ (kept x o ∷ contents b f.behind) =
    ap (contents b) f.is ∙ contents-append b f.before (f.row ∷ f.behind)
    ∙ ap (λ (l : List Kept). contents b f.before ++ l) (contents-cons b f.row f.behind)
    ∙ ap (λ (m : ℕ). contents b f.before ++ (kept m o ∷ contents b f.behind)) f.number in
    let q : take a.second (drop a.first b) ≡ o =
    ap (λ (k : ℕ). take k (drop a.first b)) g.octets ∙ ap (λ (k : ℕ). take f.row.octets (drop k b)) g.start in
    ap (look_up x) w ∙ look-put x o (contents b f.before) (contents b f.behind) (fresh-missing x b f.before n.0)
    ∙ ap here (sym q)

pub here-same : {o p : List ℕ} → here o ≡ here p → o ≡ p
here-same e = cc

pub not-missing : {o : List ℕ} {A : Type 0} → missing ≡ here o → A
not-missing e = let z : ◌≡◌ {A = ℕ} 0 1 = cc in absurd (omega arith)

-- after a put the number is got, and its octets are those that were put
pub record GotBack (b t : List ℕ) (x : ℕ) (xs : List ℕ) : Type 0 where
  pub got : After
  pub is : get_of b t x ≡ leaves got
  pub octets : take got.second (drop got.first b) ≡ xs

pub got-there : (b t : List ℕ) (x : ℕ) (xs : List ℕ) → sane_store (size_of b) t ≡ true → is_number x ≡ true
    → look_up x (contents b (rows_of t)) ≡ here xs → GotBack b t x xs
got-there b t x xs s m new =
    let rows = rows_of t in
    let g = get-of b t x s m (go (absent x rows) refl) in
    let r = gotten b rows (notes_of t) (nth (find_from x 0 rows) rows) in
    record { got = r; is = g; octets = here-same (sym (get-reads b t x r g) ∙ new) }
  where
    go : (q : Bool) → absent x (rows_of t) ≡ q → q ≡ false
    go false p = refl
    go true p = not-missing (sym (fresh-missing x b (rows_of t) (fresh-of x (rows_of t) p)) ∙ new)

pub get-after-put : (b t : List ℕ) (law x : ℕ) (xs : List ℕ) (a : After) → put_of b t law x xs ≡ leaves a
    → GotBack a.block (stored a.rows a.notes t) x xs
get-after-put b t law x xs a e =
    let t' = stored a.rows a.notes t in
    let s : sane_store (size_of a.block) t' ≡ true = rw (put-length b t law x xs e) (put-sane b t law x xs e) in
    let new : look_up x (contents a.block (rows_of t')) ≡ here xs =
    rw (put_back b t law x xs e).rows_are (put-reads-new b t law x xs e) in
    got-there a.block t' x xs s (put-granted b t law x xs a e).number new

pub walk-after-put : (b t : List ℕ) (law x : ℕ) (xs : List ℕ) (a : After) → (e : put_of b t law x xs ≡ leaves a) → (by set room : ℕ)
    → walk_all (take (get-after-put b t law x xs a e).got.second
    (drop (get-after-put b t law x xs a e).got.first a.block)) by set room
    ≡ walk_all xs by set room
walk-after-put b t law x xs a e by set room = ap (λ (o : List ℕ). walk_all o by set room) (get-after-put b t law x xs a e).octets

-- NOROOM
pub record Unrefused (b t : List ℕ) (law x : ℕ) (xs : List ℕ) : Type 0 where
  pub sane : sane_store (size_of b) t ≡ true
  pub lawful : is_law law ≡ true
  pub number : is_number x ≡ true
  pub fresh : absent x (rows_of t) ≡ true
  pub good : is_bad law xs ≡ false
  pub few : length (rows_of t) < 32

pub noroom-is : (b t : List ℕ) (law x : ℕ) (xs : List ℕ) → Unrefused b t law x xs → size_of b < held (rows_of t) + length xs
    → put_of b t law x xs ≡ refused NoRoom
unfolding put_in
noroom-is b t law x xs u h =
    let f = lt-leb 32 (length (rows_of t)) u.few in
    rw (u.sane, u.lawful, u.number, u.fresh, u.good, f, lt-ltb (size_of b) (held (rows_of t) + length xs) h)

pub noroom-only : (b t : List ℕ) (law x : ℕ) (xs : List ℕ) → put_of b t law x xs ≡ refused NoRoom
    → Unrefused b t law x xs × (size_of b < held (rows_of t) + length xs)
unfolding put_in
noroom-only b t law x xs e =
    let g = outcome-refused (put_order b t law x xs) (fitted b (rows_of t) (notes_of t) (size_of b) law x xs) NoRoom e in
    let m = g.1.1.1 in (
      record {
        sane = g.0;
        lawful = g.1.0;
        number = g.1.1.0;
        fresh = m.0;
        good = m.1.0;
        few = leb-false 32 (length (rows_of t)) m.1.1.0;
      },
      ltb-true _ _ m.1.1.1,
    )

-- THE LOWEST GAP: where one is found it is clear, and no lower place is; where none is found no place is clear
pub record Lowest (want size : ℕ) (rows : List Row) (g : Option (ℕ × ℕ)) : Type 0 where
  pub clear : (i at : ℕ) → g ≡ Some (i, at) → Clear at want rows × (at + want ≤ size)
  pub least : (p : ℕ) → Clear p want rows → p + want ≤ size → Bounds p want size g

pub put_lowest : (b t : List ℕ) (law x : ℕ) (xs : List ℕ) (a : After) → put_of b t law x xs ≡ leaves a
    → Lowest (length xs) (size_of b) (rows_of t) (lowest_gap (length xs) (size_of b) (rows_of t))
put_lowest b t law x xs a e =
    let g = put-granted b t law x xs a e in
    let o = sane-rows (size_of b) t g.sane in
    record {
      clear = λ i at q.
          let s = gap-split (length xs) (size_of b) 0 0 (rows_of t) (omega arith) o.rises (sym q) in
          (subst (λ (l : List Row). Clear at (length xs) l) (take-append-drop s.k (rows_of t)) (split-clear (rows_of t) s), s.inside);
      least = λ p c h. gap-lowest p (length xs) (size_of b) 0 0 (rows_of t) (good-some law xs g.good) (omega arith) o.rises c h;
    }

-- ANY LIST OF CALLS
pub record Keeps (size : ℕ) (s : Store) : Type 0 where
  pub sane : sane_store (size_of s.block) s.table ≡ true
  pub long : length s.block ≡ size
  pub good : Good (contents s.block (rows_in s)) (notes_for s)
  pub marks : True (contents s.block (rows_in s)) (notes_for s)
  pub total : held (rows_in s) + s.deleted ≡ s.put

-- a pair by pair of what an accepted call leaves, read from its table
along-back : (b t : List ℕ) (rows : List Row) (notes : List Note) (p : Kept → Note → Type 0) → Stored rows notes t
    → Along p (contents b rows) notes → Along p (contents b (rows_of (stored rows notes t))) (notes_of (stored rows notes t))
along-back b t rows notes p z h = rw (z.rows_are, z.notes-are) h

true-back : (b t : List ℕ) (rows : List Row) (notes : List Note) → Stored rows notes t → True (contents b rows) notes
    → True (contents b (rows_of (stored rows notes t))) (notes_of (stored rows notes t))
true-back b t rows notes z h = rw (z.rows_are, z.notes-are) h

-- the new greeting's pair
new_true : (law x : ℕ) (xs : List ℕ) → IsTrue (kept x xs) (note_of law xs)
unfolding kept
new_true law x xs = refl

new-good : (law x : ℕ) (xs : List ℕ) → is_bad law xs ≡ false → IsGood (kept x xs) (note_of law xs)
unfolding kept
new-good law x xs e = e

keeps-put : (size : ℕ) (s : Store) (law x : ℕ) (xs : List ℕ) → Keeps size s → (o : Outcome) → put_of s.block s.table law x xs ≡ o
    → Keeps size (record {
      block = block_after o s.block;
      table = table_after o s.table;
      put = s.put + put_more o (length xs);
      deleted = s.deleted;
    })
keeps-put size s law x xs k (refused w) e =
    record { sane = k.sane; long = k.long; good = k.good; marks = k.marks; total = omega (arith, k.total) }
keeps-put size s law x xs k (leaves a) e =
    let l = put-length s.block s.table law x xs e in
    let z = put_back s.block s.table law x xs e in
    let g = new-good law x xs (put-granted s.block s.table law x xs a e).good in
    let w = true-along (contents s.block (rows_in s)) (notes_for s) k.marks in
    let m = put_along s.block s.table law x xs e IsTrue (new_true law x xs) w in
    record {
      sane = rw l (put-sane s.block s.table law x xs e);
      long = l ∙ k.long;
      good = along-back a.block s.table a.rows a.notes IsGood z (put_along s.block s.table law x xs e IsGood g k.good);
      marks = true-back a.block s.table a.rows a.notes z (along-true (contents a.block a.rows) a.notes m);
      total = rw z.rows_are (omega (arith, put-held s.block s.table law x xs e, k.total));
    }

keeps-delete : (size : ℕ) (s : Store) (x : ℕ) → Keeps size s → (o : Outcome) → delete_of s.block s.table x ≡ o
    → Keeps size (record {
      block = s.block;
      table = table_after o s.table;
      put = s.put;
      deleted = s.deleted + put_more o (nth (find_from x 0 (rows_in s)) (rows_in s)).octets;
    })
keeps-delete size s x k (refused w) e =
    record { sane = k.sane; long = k.long; good = k.good; marks = k.marks; total = omega (arith, k.total) }
keeps-delete size s x k (leaves a) e =
    let z = delete-back s.block s.table x e in
    let b = delete-block s.block s.table x e in
    let g = delete-along s.block s.table x e IsGood k.good in
    let m = delete-along s.block s.table x e IsTrue (true-along (contents s.block (rows_in s)) (notes_for s) k.marks) in
    record {
      sane = delete-sane s.block s.table x e;
      long = k.long;
      good = along-back s.block s.table a.rows a.notes IsGood z (rw b at g);
      marks = true-back s.block s.table a.rows a.notes z (along-true (contents s.block a.rows) a.notes (rw b at m));
      total = rw z.rows_are (omega (arith, delete-held s.block s.table x e, k.total));
    }

-- an accepted loading, whatever the table held before it
pub keeps-taken : (s : Store) (text : List ℕ) (a : After) → load_of text s.block s.table ≡ leaves a
    → Keeps (length s.block) (record {
      block = s.block;
      table = stored a.rows a.notes s.table;
      put = held a.rows;
      deleted = 0;
    })
keeps-taken s text a e =
    let z = load-back text s.block s.table e in
    record {
      sane = load-sane text s.block s.table e;
      long = refl;
      good = along-back s.block s.table a.rows a.notes IsGood z (load-good text s.block s.table e);
      marks = true-back s.block s.table a.rows a.notes z (load-true text s.block s.table e);
      total = rw z.rows_are (omega arith);
    }

keeps-load : (size : ℕ) (s : Store) (text : List ℕ) → Keeps size s → (o : Outcome) → load_of text s.block s.table ≡ o
    → Keeps size (record {
      block = s.block;
      table = table_after o s.table;
      put = put_first o s.put;
      deleted = none_deleted o s.deleted;
    })
keeps-load size s text k (refused w) e = record { sane = k.sane; long = k.long; good = k.good; marks = k.marks; total = k.total }
keeps-load size s text k (leaves a) e = rw (← k.long) (keeps-taken s text a e)

-- every call keeps it so
pub call_kept : (size : ℕ) (c : Call) (s : Store) → Keeps size s → Keeps size (see c s)
call_kept size (putting law x xs) s k = keeps-put size s law x xs k (put_of s.block s.table law x xs) refl
call_kept size (getting x) s k = k
call_kept size (deleting x) s k = keeps-delete size s x k (delete_of s.block s.table x) refl
call_kept size (saving room) s k = k
call_kept size (loading text) s k = keeps-load size s text k (load_of text s.block s.table) refl

pub calls-kept : (size : ℕ) (cs : List Call) (s : Store) → Keeps size s → Keeps size (see_all cs s)
unfolding see_all
calls-kept size [] s k = k
calls-kept size (c ∷ cs) s k = calls-kept size cs (see c s) (call_kept size c s k)

fresh_kept : (b : List ℕ) (cells : ℕ) → store_cells (size_of b) ≤ cells → Keeps (length b) (fresh b cells)
unfolding sane_store sane_of rows_at rising numbered matched held notes_in contents Along True
fresh_kept b cells h =
    let z = get_or-replicate {A = ℕ} cells 0 0 0 (omega arith) in
    let y = get_or-replicate {A = ℕ} cells 97 0 0 (omega arith) in
    let x : get_or {A = ℕ} (drop 97 (replicate cells 0)) 0 0 ≡ 0 = get_or-drop 97 (replicate cells 0) 0 0 ∙ y in
    record {
      sane = rw (length-replicate {A = ℕ} cells 0, le-ltb cells (store_cells (size_of b)) h, le-ltb cells 97 (omega arith), z, y);
      long = refl;
      good = rw (z, x) tt;
      marks = rw (z, x) tt;
      total = rw z;
    }

pub all-kept : (b : List ℕ) (cells : ℕ) (cs : List Call) → store_cells (size_of b) ≤ cells → Keeps (length b) (see_all cs (fresh b cells))
all-kept b cells cs h = calls-kept (length b) cs (fresh b cells) (fresh_kept b cells h)

pub held-total : (b : List ℕ) (cells : ℕ) (cs : List Call) → store_cells (size_of b) ≤ cells
    → held (rows_in (see_all cs (fresh b cells))) + (see_all cs (fresh b cells)).deleted ≡ (see_all cs (fresh b cells)).put
held-total b cells cs h = (all-kept b cells cs h).total

pub all-sane : (b : List ℕ) (cells : ℕ) (cs : List Call) → store_cells (size_of b) ≤ cells
    → sane_store (size_of (see_all cs (fresh b cells)).block) (see_all cs (fresh b cells)).table ≡ true
all-sane b cells cs h = (all-kept b cells cs h).sane

-- R-8: "Every put and move keeps marks true to what the walk gives."
pub marks-true : (b : List ℕ) (cells : ℕ) (cs : List Call) → store_cells (size_of b) ≤ cells
    → True (contents (see_all cs (fresh b cells)).block (rows_in (see_all cs (fresh b cells)))) (notes_for (see_all cs (fresh b cells)))
marks-true b cells cs h = (all-kept b cells cs h).marks

pub notes-count : (b : List ℕ) (cells : ℕ) (cs : List Call) → store_cells (size_of b) ≤ cells
    → length (notes_for (see_all cs (fresh b cells))) ≡ length (rows_in (see_all cs (fresh b cells)))
notes-count b cells cs h =
    let s = see_all cs (fresh b cells) in
    sane-count s.block s.table (all-kept b cells cs h).sane

-- the marks of all greetings fit the cells
pub marks-inside : {size : ℕ} {s : Store} → Keeps size s → 194 + 2 * marks_held (heads_of s.table) ≤ store_cells size
marks-inside {size} {s} k =
    let n = sane-noted (size_of s.block) s.table k.sane in
    let t = s.table in
    let l : length (rows_of t) ≡ length (heads_of t) =
    length-rows t (get_or t 0 0) 1 ∙ sym n.count ∙ sym (get_or-drop 97 t 0 0) ∙ sym (length-rows (drop 97 t) (get_or (drop 97 t) 0 0) 1) in
    let f = marks-fit (rows_of t) (heads_of t) (sym l) n.fits in
    let w = held-within (rows_of t) 0 (size_of s.block) n.order.rises (omega arith) in
    omega (arith, f, w, length-rows t (get_or t 0 0) 1, n.order.few, k.long)

pub all-marks-fit : (b : List ℕ) (cells : ℕ) (cs : List Call) → store_cells (size_of b) ≤ cells
    → 194 + 2 * marks_held (heads_of (see_all cs (fresh b cells)).table) ≤ store_cells (length b)
all-marks-fit b cells cs h = marks-inside (all-kept b cells cs h)

-- TABLE does not arise from calls alone
pub record NeverTable (s : Store) : Type 0 where
  pub put : (law x : ℕ) (xs : List ℕ) → put_of s.block s.table law x xs ≡ refused Table → ⊥
  pub get : (x : ℕ) → get_of s.block s.table x ≡ refused Table → ⊥
  pub delete : (x : ℕ) → delete_of s.block s.table x ≡ refused Table → ⊥
  pub save : (room : ℕ) → save_of s.block s.table room ≡ declined Table → ⊥

put-tables : (b : List ℕ) (size : ℕ) (rows : List Row) (notes : List Note) (law x : ℕ) (xs : List ℕ)
    → put_in b size rows notes law x xs ≡ refused Table → ⊥
unfolding put_in
put-tables b size rows notes law x xs e =
    outcome-refused (put_asks size rows law x xs) (fitted b rows notes size law x xs) Table e

-- NUMBER, ABSENT or the greeting
found-tables : (x : ℕ) (rows : List Row) (a : After) → judged (find_asks rows x) refused (leaves a) ≡ refused Table → ⊥
found-tables x rows a e = outcome-refused (find_asks rows x) a Table e

save-tables : (size : ℕ) (xs : List Listed) (room : ℕ) → save_in size xs room ≡ declined Table → ⊥
save-tables size xs room e = text-declined (room_ask size xs room ∷ []) (saved_text size xs) Table e

pub never-table : {size : ℕ} {s : Store} → Keeps size s → NeverTable s
unfolding get_in delete_in
never-table {size} {s} k =
    let rows = rows_in s in
    let notes = notes_for s in
    let b = s.block in
    record {
      put = λ law x xs e. put-tables b (size_of b) rows notes law x xs (rw k.sane at e);
      get = λ x e. found-tables x rows (gotten b rows notes (nth (find_from x 0 rows) rows)) (rw k.sane at e);
      delete = λ x e. found-tables x rows (without b rows notes (find_from x 0 rows)) (rw k.sane at e);
      save = λ room e. save-tables (size_of b) (listing rows notes) room (rw k.sane at e);
    }

-- SAVED AND LOADED: what save writes, load takes into any table that is long enough; greetings, laws, samples and marks are the same
pub saved-loads : {size : ℕ} {s : Store} → Keeps size s → (t : List ℕ) → store_cells (size_of s.block) ≤ length t
    → load_of (saved_text (size_of s.block) (listing (rows_in s) (notes_for s))) s.block t
    ≡ leaves (record { block = s.block; rows = rows_in s; notes = notes_for s; first = 0; second = 0 })
saved-loads {size} {s} k t h =
    let o = sane-rows (size_of s.block) s.table k.sane in
    load-of s.block t (rows_in s) (notes_for s) h (omega (arith, length-rows s.table (get_or s.table 0 0) 1, o.few)) o.rises
    (sane-distinct (size_of s.block) s.table k.sane) (sane-count s.block s.table k.sane) k.good k.marks

pub saved-text : (size : ℕ) (xs : List Listed) (room : ℕ) (text : List ℕ) → save_in size xs room ≡ saved text → text ≡ saved_text size xs
saved-text size xs room text e = (text-saved (room_ask size xs room ∷ []) (saved_text size xs) e).1

pub save-writes : {size : ℕ} {s : Store} → Keeps size s → (room : ℕ)
    → save_of s.block s.table room ≡ save_in (size_of s.block) (listing (rows_in s) (notes_for s)) room
save-writes k room = rw k.sane

pub what-save-writes : {size : ℕ} {s : Store} → Keeps size s → (room : ℕ) (text : List ℕ) → save_of s.block s.table room ≡ saved text
    → (t : List ℕ) → store_cells (size_of s.block) ≤ length t
    → load_of text s.block t ≡ leaves (record { block = s.block; rows = rows_in s; notes = notes_for s; first = 0; second = 0 })
what-save-writes {size} {s} k room text e t h =
    let w = saved-text (size_of s.block) (listing (rows_in s) (notes_for s)) room text (sym (save-writes k room) ∙ e) in
    rw w (saved-loads k t h)

-- "A table all in R-6's lines is read by walking each greeting as law 1": its greetings, with what that walk gives
pub early-loads : (text b t : List ℕ) (rows : List Row) (i : ℕ) (a : After) → table_in text ≡ whole rows i → load_of text b t ≡ leaves a
    → a ≡ loaded b (early b rows)
early-loads text b t rows i a e f =
    let k = load-took text b t a f in
    k.is ∙ ap (loaded b) (lists-one k.formed.lists (in-early e))

-- one in R-8's lines: its greetings with the notes that it lists
pub noted-loads : (text b t : List ℕ) (xs : List Listed) (i : ℕ) (a : After) → table_in text ≡ none → formed_in text ≡ whole xs i
    → load_of text b t ≡ leaves a → a ≡ loaded b xs
noted-loads text b t xs i a e g f =
    let k = load-took text b t a f in
    k.is ∙ ap (loaded b) (lists-one k.formed.lists (in-noted e g))

-- R-6's lines, saved again, are R-8's lines
pub early-saved : (text b t : List ℕ) (rows : List Row) (i : ℕ) (a : After) → table_in text ≡ whole rows i → load_of text b t ≡ leaves a
    → (room : ℕ) → save_of b (stored a.rows a.notes t) room ≡ save_in (size_of b) (early b rows) room
early-saved text b t rows i a e f room =
    let z = load-back text b t f in
    let q = early-loads text b t rows i a e f in
    let l : listing a.rows a.notes ≡ early b rows = rw q (listing-listed (early b rows)) in
    rw (load-sane text b t f, z.rows_are, z.notes-are, l)
