-- What an accepted put, delete or get tells (`Granted`, `Gone`, `Got`), and the table that it leaves: sane (`put-sane`, `delete-sane`),
-- with the new greeting and every other one as it was (`put_reads`), each with its note (`put_back`, `delete-back`: what is stored is
-- read), and what it holds.
use Prim.Native.Nat.{ℕ, suc, ◌+◌, ◌≤◌}
use mathlib.Core.Path.{◌≡◌, refl, sym, ap, subst, ◌∙◌}
use mathlib.Core.List.{List, [], ◌∷◌, ◌++◌}
use mathlib.Core.Bool.{Bool, true, false, cond, not}
use native.Mathlib.Omega.{arith}
use native.Mathlib.Nat.{zero-add}
use lib.ListN.{length, take, drop, get_or, length-append, length-drop, length-take, take-append-drop, drop_of_length-le}
use lib.Seq.{take_all, take_at, drop_at, drop-cons, get_or-append-add, append_snoc}
use lib.Dec.{leb, ltb}
use borrow.Author.Tests.{ltb-false, leb-false, leb-true}
use Rattle.rules.specs.Tools.{is_law, most_law}
use Rattle.rules.proofs.Tests.{and_left, and_right}
use Rattle.store_rows.specs.declared.rows.Row.{Row}
use Rattle.std.specs.Prelude.{Option, Some, None}
use Rattle.store_rows.specs.Limits.{most_number, size_of, is_number}
use Rattle.store_rows.specs.Rows.{row_of, held, contents}
use Rattle.store_rows.specs.Finding.{absent, find_from, lowest_gap}
use Rattle.store_rows.specs.Cells.{rows_of}
use Rattle.store_rows.specs.Sane.{rising, sane_of, Ordered}
use Rattle.store_rows.specs.Changed.{nth, insert_at, remove_at, written}
use Rattle.store_rows.specs.Closing.{moved_to, closed_rows, closed_block}
use Rattle.store_greeting.specs.Bad.{is_bad, is_done, walk_of}
use Rattle.store_greeting.specs.Marks.{Note, note_of}
use Rattle.store_greeting.proofs.Count.{note-few}
use Rattle.store_notes.specs.Notes.{nth_note, insert_note, remove_note, no_note}
use Rattle.store_notes.specs.Cells.{head_row, heads, heads_of, notes_of, stored}
use Rattle.store_notes.specs.Sane.{store_cells, matched, sane_store}
use Rattle.store_notes.proofs.Noting.{heads-notes, length-heads}
use Rattle.store_notes.proofs.Stored.{length-notes}
use Rattle.store_notes.proofs.Held.{rows-stored, notes-stored}
use Rattle.store_notes.proofs.Matched.{sane-noted, room_for}
use Rattle.store_notes.proofs.Pairs.{Fits, matched-head, matched-cons, matched-nil, matched-inserted, matched-removed, sane-old}
use Rattle.store_notes.proofs.Pairs.{sane-stored}
use Rattle.store.specs.declared.Refusal.{Refusal}
use Rattle.store.specs.Store.{leaves, refused, After, put_at, fitted, put_in, get_in, delete_in, gotten, without}
use Rattle.store.specs.Calls.{put_order, find_order, put_of, get_of, delete_of}
use Rattle.store.proofs.Only.{outcome-leaves}
use Rattle.store_rows.proofs.Lists.{passed, both}
use Rattle.store_rows.proofs.Cells.{length-rows}
use Rattle.store_rows.proofs.Closed.{length-closed}
use Rattle.store_promises.proofs.Rising.{rising-nil, rising-join, rising-remove, closing-rises}
use Rattle.store_promises.proofs.Rising.{held-append, held_cons, held-closed, held-inserted, held-within}
use Rattle.store_promises.proofs.Numbers.{Fresh, Distinct, fresh-of, distinct_of}
use Rattle.store_promises.proofs.Numbers.{numbered_of, fresh-closed, distinct-closed, inserted-distinct}
use Rattle.store_promises.proofs.Numbers.{distinct_remove, FoundAt, find-split}
use Rattle.store_promises.proofs.Contents.{kept, contents-append, contents-cons, contents-nil, closing-reads, closed-length}
use Rattle.store_promises.proofs.Contents.{length-written, below-reads, own-part}
use Rattle.store_promises.proofs.Gaps.{gap-inside, gap-rises, gap-reads}

pub no-outcome : {A : Type 0} {w : Refusal} {a : After} → refused w ≡ leaves a → A
no-outcome e = let z : ◌≡◌ {A = ℕ} 0 1 = cc in absurd (omega arith)

-- a table that calls leave
pub sane-rows : (size : ℕ) (t : List ℕ) → sane_store size t ≡ true → Ordered size t
sane-rows size t s = (sane-noted size t s).order

pub sane-distinct : (size : ℕ) (t : List ℕ) → sane_store size t ≡ true → Distinct (rows_of t)
unfolding sane_of
sane-distinct size t s =
    let a = passed (ltb (length t) 97) _ (sane-old size t s) in
    let b = passed (ltb 32 (get_or t 0 0)) _ a.1 in
    distinct_of (rows_of t) (both (rising 1 0 size (rows_of t)) _ b.1).1

pub sane-count : (b t : List ℕ) → sane_store (size_of b) t ≡ true → length (notes_of t) ≡ length (rows_of t)
sane-count b t s =
    let n = sane-noted (size_of b) t s in
    length-notes t (get_or t 97 0) 0 refl (omega arith) (room_for n (omega arith)) ∙ n.count ∙ sym (length-rows t (get_or t 0 0) 1)

pub sane-matched : (size : ℕ) (t : List ℕ) → sane_store size t ≡ true → matched (rows_of t) (heads (notes_of t)) ≡ true
sane-matched size t s = rw (heads-notes (heads_of t) (drop 194 t)) (sane-noted size t s).fits

pub stored-sane : (b : List ℕ) (rows : List Row) (notes : List Note) (t : List ℕ) → store_cells (size_of b) ≤ length t → length rows ≤ 32
    → rising 1 0 (size_of b) rows ≡ true → Distinct rows → length notes ≡ length rows → matched rows (heads notes) ≡ true
    → sane_store (size_of b) (stored rows notes t) ≡ true
stored-sane b rows notes t c f h d l m =
    sane-stored (size_of b) rows notes t c f l (omega arith) (omega (arith, held-within rows 0 (size_of b) h (omega arith)))
    h (numbered_of rows d) m

-- what is stored is what the table then holds
pub record Stored (rows : List Row) (notes : List Note) (t : List ℕ) : Type 0 where
  pub rows_are : rows_of (stored rows notes t) ≡ rows
  pub notes-are : notes_of (stored rows notes t) ≡ notes

pub stored_back : (b : List ℕ) (rows : List Row) (notes : List Note) (t : List ℕ) → store_cells (size_of b) ≤ length t → length rows ≤ 32
    → length notes ≡ length rows → Stored rows notes t
stored_back b rows notes t c f l =
    let g : length notes ≤ 32 = omega arith in
    let w : 194 ≤ length t = omega arith in
    record { rows_are = rows-stored rows notes t f g w; notes-are = notes-stored rows notes t f g w }

-- a greeting that is not bad has an octet
pub good-some : (law : ℕ) (xs : List ℕ) → is_bad law xs ≡ false → 1 ≤ length xs
unfolding is_bad
good-some law xs e = go (ltb (length xs) 1) (not (is_done (walk_of law xs).end)) refl e
  where
    go : (t r : Bool) → ltb (length xs) 1 ≡ t → cond t true r ≡ false → 1 ≤ length xs
    go true r p e = let z : ◌≡◌ {A = ℕ} 0 1 = cc in absurd (omega arith)
    go false r p e = ltb-false (length xs) 1 p

-- PUT
pub record Granted (b t : List ℕ) (law x : ℕ) (xs : List ℕ) (a : After) : Type 0 where
  pub sane : sane_store (size_of b) t ≡ true
  pub lawful : is_law law ≡ true
  pub number : is_number x ≡ true
  pub fresh : absent x (rows_of t) ≡ true
  pub good : is_bad law xs ≡ false
  pub few : length (rows_of t) ≤ 31
  pub room : held (rows_of t) + length xs ≤ size_of b
  pub is : a ≡ fitted b (rows_of t) (notes_of t) (size_of b) law x xs

pub put-granted : (b t : List ℕ) (law x : ℕ) (xs : List ℕ) (a : After) → put_of b t law x xs ≡ leaves a → Granted b t law x xs a
unfolding put_in
put-granted b t law x xs a e =
    let k = outcome-leaves (put_order b t law x xs) (fitted b (rows_of t) (notes_of t) (size_of b) law x xs) e in
    let m = k.0.1.1.1 in
    let w = leb-false 32 (length (rows_of t)) m.1.1.0 in
    record {
      sane = k.0.0;
      lawful = k.0.1.0;
      number = k.0.1.1.0;
      fresh = m.0;
      good = m.1.0;
      few = omega arith;
      room = ltb-false _ _ m.1.1.1.0;
      is = k.1;
    }

pub low-number : (x : ℕ) → is_number x ≡ true → 1 ≤ x
low-number x e = leb-true 1 x (and_left (leb 1 x) (leb x most_number) e)

pub high-number : (x : ℕ) → is_number x ≡ true → x ≤ most_number
high-number x e = leb-true x most_number (and_right (leb 1 x) (leb x most_number) e)

-- closing up leaves the second list as it fits
pub matched-closed : (at : ℕ) (rows hs : List Row) → length rows ≡ length hs → matched rows hs ≡ true
    → matched (closed_rows at rows) hs ≡ true
unfolding closed_rows
matched-closed at [] hs l e = matched-nil hs
matched-closed at (r ∷ rows) [] l e = absurd (omega arith)
matched-closed at (r ∷ rows) (h ∷ hs) l e =
    let m = matched-head r h rows hs e in
    matched-cons (moved_to at r) h (closed_rows (at + r.octets) rows) hs (record { law = m.0.law; marks = m.0.marks })
    (matched-closed (at + r.octets) rows hs (omega arith) m.1)

length_inserted : (i : ℕ) (r : Row) (rows : List Row) → length (insert_at i r rows) ≤ length rows + 1
length_inserted i r rows = omega (arith, length-append (take i rows) (r ∷ drop i rows), length-take i rows, length-drop i rows)

-- with its note
inserted_same : (i : ℕ) (r : Row) (rows : List Row) (n : Note) (notes : List Note) → length notes ≡ length rows
    → length (insert_note i n notes) ≡ length (insert_at i r rows)
inserted_same i r rows n notes l =
    let a = length-append (take i notes) (n ∷ drop i notes) in
    let b = length-append (take i rows) (r ∷ drop i rows) in
    omega (arith, a, b, length-take i notes, length-drop i notes, length-take i rows, length-drop i rows)

-- what closing up puts the greeting behind
module _ (size : ℕ) (rows : List Row) (r : Row) (h : rising 1 0 size rows ≡ true) where
  pub behind-all : insert_at (length rows) r (closed_rows 0 rows) ≡ closed_rows 0 rows ++ (r ∷ [])
  behind-all =
      let l = length-closed 0 rows in
      let d : drop (length rows) (closed_rows 0 rows) ≡ [] = drop_of_length-le (closed_rows 0 rows) {i = length rows} (omega arith) in
      rw (take_all (length rows) (closed_rows 0 rows) (omega arith), d)

  pub behind-rises : 1 ≤ r.octets → r.start ≡ held rows → r.start + r.octets ≤ size
      → rising 1 0 size (closed_rows 0 rows ++ (r ∷ [])) ≡ true
  behind-rises o s g =
      let c = rw zero-add at (closing-rises rows 0 0 size h) in
      rising-join (closed_rows 0 rows) r [] 0 size o (omega arith) g (rw s c) (rising-nil 1 (r.start + r.octets) size)

-- the new greeting reads as given, every other as before; its note is what the walk gives, and stands at the same place
pub record ReadsNew (b t : List ℕ) (law x : ℕ) (xs : List ℕ) (a : After) : Type 0 where
  pub place : ℕ
  pub is : contents a.block a.rows ≡ contents b (take place (rows_of t)) ++ (kept x xs ∷ contents b (drop place (rows_of t)))
  pub notes : a.notes ≡ insert_note place (note_of law xs) (notes_of t)

module _ (b t : List ℕ) (law x : ℕ) (xs : List ℕ) {a : After} (e : put_of b t law x xs ≡ leaves a) where
  granted : Granted b t law x xs a
  granted = put-granted b t law x xs a e

  ordered : Ordered (size_of b) t
  ordered = sane-rows (size_of b) t granted.sane

  some : 1 ≤ length xs
  some = good-some law xs granted.good

  distinct : Distinct (rows_of t)
  distinct = sane-distinct (size_of b) t granted.sane

  cells : store_cells (size_of b) ≤ length t
  cells = (sane-noted (size_of b) t granted.sane).cells

  same : length (notes_of t) ≡ length (rows_of t)
  same = sane-count b t granted.sane

  -- the new note's law, and how many marks it has
  fits : (at : ℕ) → Fits (row_of x at (length xs)) (head_row (note_of law xs))
  fits at = record { law = leb-true law most_law granted.lawful; marks = note-few law xs }

  pub put-fresh : Fresh x (rows_of t)
  put-fresh = fresh-of x (rows_of t) granted.fresh

  abbrev after : Option (ℕ × ℕ) → After
  after p = put_at b (rows_of t) (notes_of t) law x xs p

  sane-in : (p : Option (ℕ × ℕ)) → p ≡ lowest_gap (length xs) (size_of b) (rows_of t)
      → sane_store (size_of b) (stored (after p).rows (after p).notes t) ≡ true
  sane-in (Some (i, s)) q =
      let rows = rows_of t in
      let new = row_of x s (length xs) in
      let n = granted.number in
      stored-sane b (insert_at i new rows) (insert_note i (note_of law xs) (notes_of t)) t cells
      (omega (arith, length_inserted i new rows, granted.few))
      (gap-rises b xs (size_of b) x rows i s (omega arith) some ordered.rises q)
      (inserted-distinct i new rows (low-number x n) (high-number x n) put-fresh distinct)
      (inserted_same i new rows (note_of law xs) (notes_of t) same)
      (matched-inserted i rows (notes_of t) same (sane-matched (size_of b) t granted.sane) new (note_of law xs) (fits s))
  sane-in None q =
      let rows = rows_of t in
      let new = row_of x (held rows) (length xs) in
      let n = granted.number in
      let c = closed_rows 0 rows in
      let l = length-closed 0 rows in
      let k : length (notes_of t) ≡ length c = same ∙ sym l in
      let m = matched-closed 0 rows (heads (notes_of t)) (sym same ∙ sym (length-heads (notes_of t)))
      (sane-matched (size_of b) t granted.sane) in
      stored-sane b (insert_at (length rows) new c) (insert_note (length rows) (note_of law xs) (notes_of t)) t cells
      (omega (arith, length_inserted (length rows) new c, l, granted.few))
      (rw (behind-all (size_of b) rows new ordered.rises) (behind-rises (size_of b) rows new ordered.rises some refl granted.room))
      (inserted-distinct (length rows) new c (low-number x n) (high-number x n) (fresh-closed x 0 rows put-fresh)
      (distinct-closed 0 rows distinct))
      (inserted_same (length rows) new c (note_of law xs) (notes_of t) k)
      (matched-inserted (length rows) c (notes_of t) k m new (note_of law xs) (fits (held rows)))

  pub put-sane : sane_store (size_of b) (stored a.rows a.notes t) ≡ true
  put-sane = rw granted.is (sane-in (lowest_gap (length xs) (size_of b) (rows_of t)) refl)

  few-in : (p : Option (ℕ × ℕ)) → (length (after p).rows ≤ 32) × (length (after p).notes ≡ length (after p).rows)
  few-in (Some (i, s)) =
      let new = row_of x s (length xs) in
      (omega (arith, length_inserted i new (rows_of t), granted.few), inserted_same i new (rows_of t) (note_of law xs) (notes_of t) same)
  few-in None =
      let rows = rows_of t in
      let new = row_of x (held rows) (length xs) in
      let l = length-closed 0 rows in (
        omega (arith, length_inserted (length rows) new (closed_rows 0 rows), l, granted.few),
        inserted_same (length rows) new (closed_rows 0 rows) (note_of law xs) (notes_of t) (same ∙ sym l),
      )

  pub put_back : Stored a.rows a.notes t
  put_back =
      let p = lowest_gap (length xs) (size_of b) (rows_of t) in
      let q = few-in p in
      rw granted.is (stored_back b (after p).rows (after p).notes t cells q.0 q.1)

  length-in : (p : Option (ℕ × ℕ)) → p ≡ lowest_gap (length xs) (size_of b) (rows_of t) → length (after p).block ≡ length b
  length-in (Some (i, s)) q =
      length-written b s xs (omega (arith, gap-inside b xs (size_of b) x (rows_of t) i s (omega arith) some ordered.rises q))
  length-in None q =
      let c = closed-length b (rows_of t) (size_of b) ordered.rises (omega arith) in
      length-written (closed_block b (rows_of t)) (held (rows_of t)) xs (omega (arith, c, granted.room)) ∙ c

  pub put-length : length a.block ≡ length b
  put-length = rw granted.is (length-in (lowest_gap (length xs) (size_of b) (rows_of t)) refl)

  held_in : (p : Option (ℕ × ℕ)) → held (after p).rows ≡ held (rows_of t) + length xs
  held_in (Some (i, s)) = held-inserted i (row_of x s (length xs)) (rows_of t)
  held_in None =
      held-inserted (length (rows_of t)) (row_of x (held (rows_of t)) (length xs)) (closed_rows 0 (rows_of t))
      ∙ ap (λ (y : ℕ). y + length xs) (held-closed 0 (rows_of t))

  pub put-held : held a.rows ≡ held (rows_of t) + length xs
  put-held = rw granted.is (held_in (lowest_gap (length xs) (size_of b) (rows_of t)))

  reads_in : (p : Option (ℕ × ℕ)) → p ≡ lowest_gap (length xs) (size_of b) (rows_of t) → ReadsNew b t law x xs (after p)
  reads_in (Some (i, s)) q =
      record { place = i; is = gap-reads b xs (size_of b) x (rows_of t) i s (omega arith) some ordered.rises q; notes = refl }
  reads_in None q =
      let rows = rows_of t in
      let done = closed_rows 0 rows in
      let n = length rows in
      let b₁ = closed_block b rows in
      let w = written b₁ (held rows) xs in
      let r = row_of x (held rows) (length xs) in
      let h = rw zero-add at (closing-rises rows 0 0 (size_of b) ordered.rises) in
      let tr = take_all n rows (omega arith) in
      let dr : drop n rows ≡ [] = drop_of_length-le rows {i = n} (omega arith) in
      let big : held rows + length xs ≤ length b₁ =
      omega (arith, granted.room, closed-length b rows (size_of b) ordered.rises (omega arith)) in
      let c : contents w (done ++ (r ∷ [])) ≡ contents b rows ++ (kept x xs ∷ contents b []) =
      contents-append w done (r ∷ []) ∙ rw (
        contents-cons w r [],
        below-reads b₁ xs (held rows) big done 0 h,
        closing-reads b rows (size_of b) ordered.rises (omega arith),
        own-part b₁ xs (held rows) big,
        contents-nil w b,
      ) in
      record { place = n; is = rw (behind-all (size_of b) rows r ordered.rises, tr, dr) c; notes = refl }

  pub put_reads : ReadsNew b t law x xs a
  put_reads = rw granted.is (reads_in (lowest_gap (length xs) (size_of b) (rows_of t)) refl)

-- DELETE
pub record Gone (b t : List ℕ) (x : ℕ) (a : After) : Type 0 where
  pub sane : sane_store (size_of b) t ≡ true
  pub number : is_number x ≡ true
  pub found : FoundAt x 0 (rows_of t)
  pub is : a ≡ without b (rows_of t) (notes_of t) (find_from x 0 (rows_of t))

pub delete-gone : (b t : List ℕ) (x : ℕ) (a : After) → delete_of b t x ≡ leaves a → Gone b t x a
unfolding delete_in
delete-gone b t x a e =
    let k = outcome-leaves (find_order b t x) (without b (rows_of t) (notes_of t) (find_from x 0 (rows_of t))) e in
    record { sane = k.0.0; number = k.0.1.0; found = find-split x 0 (rows_of t) k.0.1.1.0; is = k.1 }

-- a greeting among others, taken out, and got
module _ (before : List Row) (r : Row) (behind : List Row) where
  pub taken_out : remove_at (length before) (before ++ (r ∷ behind)) ≡ before ++ behind
  taken_out =
      let d : drop (length before + 1) (before ++ (r ∷ behind)) ≡ behind =
      ap (drop (length before + 1)) (sym (append_snoc before r behind))
      ∙ drop_at (before ++ (r ∷ [])) behind (length before + 1) (length-append before (r ∷ [])) in
      rw (take_at before (r ∷ behind) (length before) refl, d)

  pub nth_of : nth (length before) (before ++ (r ∷ behind)) ≡ r
  nth_of = let z : length before + 0 ≡ length before = omega arith in rw z at (get_or-append-add before (r ∷ behind) 0 (row_of 0 0 0))

  pub held_out : held (before ++ behind) + r.octets ≡ held (before ++ (r ∷ behind))
  held_out = omega (arith, held-append before behind, held-append before (r ∷ behind), held_cons r behind)

pub found-nth : {x : ℕ} {rows : List Row} → (f : FoundAt x 0 rows) → nth (find_from x 0 rows) rows ≡ f.row
found-nth {x} {rows} f =
    let p : find_from x 0 rows ≡ length f.before = f.place ∙ omega arith in
    rw p (ap (λ (l : List Row). nth (length f.before) l) f.is ∙ nth_of f.before f.row f.behind)

pub found-out : {x : ℕ} {rows : List Row} → (f : FoundAt x 0 rows) → remove_at (find_from x 0 rows) rows ≡ f.before ++ f.behind
found-out {x} {rows} f =
    let p : find_from x 0 rows ≡ length f.before = f.place ∙ omega arith in
    rw p (ap (λ (l : List Row). remove_at (length f.before) l) f.is ∙ taken_out f.before f.row f.behind)

module _ (b t : List ℕ) (x : ℕ) {a : After} (e : delete_of b t x ≡ leaves a) where
  abbrev pub gone : Gone b t x a
  gone = delete-gone b t x a e

  pub delete-block : a.block ≡ b
  delete-block = rw gone.is

  pub delete-rows : a.rows ≡ gone.found.before ++ gone.found.behind
  delete-rows = ap (λ (y : After). y.rows) gone.is ∙ found-out gone.found

  pub delete-held : held a.rows + (nth (find_from x 0 (rows_of t)) (rows_of t)).octets ≡ held (rows_of t)
  delete-held =
      let f = gone.found in
      rw (delete-rows, found-nth f) (held_out f.before f.row f.behind ∙ ap held (sym f.is))

  -- the notes, with the one that goes
  same-gone : length (notes_of t) ≡ length (rows_of t)
  same-gone = sane-count b t gone.sane

  abbrev at-gone : ℕ
  at-gone = length gone.found.before

  pub delete-parts : notes_of t ≡ take at-gone (notes_of t) ++ (nth_note at-gone (notes_of t) ∷ drop (at-gone + 1) (notes_of t))
  delete-parts =
      let f = gone.found in
      let n = ap length f.is ∙ length-append f.before (f.row ∷ f.behind) in
      let s : suc at-gone ≡ at-gone + 1 = omega arith in
      let d : drop at-gone (notes_of t) ≡ nth_note at-gone (notes_of t) ∷ drop (at-gone + 1) (notes_of t) =
      drop-cons (notes_of t) at-gone no_note (omega (arith, same-gone))
      ∙ ap (λ (k : ℕ). nth_note at-gone (notes_of t) ∷ drop k (notes_of t)) s in
      sym (take-append-drop at-gone (notes_of t)) ∙ ap (λ (l : List Note). take at-gone (notes_of t) ++ l) d

  pub delete-taken : length (take at-gone (notes_of t)) ≡ length gone.found.before
  delete-taken =
      let f = gone.found in
      let n = ap length f.is ∙ length-append f.before (f.row ∷ f.behind) in
      length-take at-gone (notes_of t) ∙ omega (arith, same-gone)

  pub delete-notes : a.notes ≡ take at-gone (notes_of t) ++ drop (at-gone + 1) (notes_of t)
  delete-notes =
      let p : find_from x 0 (rows_of t) ≡ at-gone = gone.found.place ∙ omega arith in
      ap (λ (y : After). y.notes) gone.is ∙ ap (λ (k : ℕ). remove_note k (notes_of t)) p

  pub delete-back : Stored a.rows a.notes t
  delete-back =
      let f = gone.found in
      let o = sane-noted (size_of b) t gone.sane in
      let n = ap length f.is ∙ length-append f.before (f.row ∷ f.behind) in
      let k = length-append f.before f.behind in
      let before = take at-gone (notes_of t) in
      let behind = drop (at-gone + 1) (notes_of t) in
      let c = ap length delete-parts ∙ length-append before (nth_note at-gone (notes_of t) ∷ behind) in
      let r = ap length delete-rows in
      let m = ap length delete-notes in
      stored_back b a.rows a.notes t o.cells (omega (arith, r, k, n, length-rows t (get_or t 0 0) 1, o.order.few))
      (omega (arith, r, m, k, n, c, length-append before behind, same-gone))

  pub delete-sane : sane_store (size_of b) (stored a.rows a.notes t) ≡ true
  delete-sane =
      let f = gone.found in
      let o = sane-noted (size_of b) t gone.sane in
      let d = sane-distinct (size_of b) t gone.sane in
      let n = ap length f.is ∙ length-append f.before (f.row ∷ f.behind) in
      let k = length-append f.before f.behind in
      let before = take at-gone (notes_of t) in
      let behind = drop (at-gone + 1) (notes_of t) in
      let c = ap length delete-parts ∙ length-append before (nth_note at-gone (notes_of t) ∷ behind) in
      let m = sane-matched (size_of b) t gone.sane in
      let e₁ = ap (λ (l : List Row). sane_store (size_of b) (stored l a.notes t)) delete-rows in
      let e₂ = ap (λ (l : List Note). sane_store (size_of b) (stored (f.before ++ f.behind) l t)) delete-notes in
      e₁ ∙ e₂ ∙ stored-sane b (f.before ++ f.behind) (before ++ behind) t o.cells
      (omega (arith, k, n, length-rows t (get_or t 0 0) 1, o.order.few))
      (rising-remove f.before f.row f.behind 0 (size_of b)
      (subst (λ (l : List Row). rising 1 0 (size_of b) l ≡ true) f.is o.order.rises))
      (distinct_remove f.before f.row f.behind (subst Distinct f.is d))
      (omega (arith, k, n, c, length-append before behind, same-gone))
      (matched-removed f.before f.row f.behind before (nth_note at-gone (notes_of t)) behind delete-taken
      (subst (λ (l : List Row). matched l (heads (before ++ (nth_note at-gone (notes_of t) ∷ behind))) ≡ true) f.is
      (subst (λ (l : List Note). matched (rows_of t) (heads l) ≡ true) delete-parts m)))

-- GET
pub record Got (b t : List ℕ) (x : ℕ) (a : After) : Type 0 where
  pub sane : sane_store (size_of b) t ≡ true
  pub found : FoundAt x 0 (rows_of t)
  pub start : a.first ≡ found.row.start
  pub octets : a.second ≡ found.row.octets

pub get-got : (b t : List ℕ) (x : ℕ) (a : After) → get_of b t x ≡ leaves a → Got b t x a
unfolding get_in
get-got b t x a e =
    let k = outcome-leaves (find_order b t x) (gotten b (rows_of t) (notes_of t) (nth (find_from x 0 (rows_of t)) (rows_of t))) e in
    let c = find-split x 0 (rows_of t) k.0.1.1.0 in
    record {
      sane = k.0.0;
      found = c;
      start = ap (λ (y : After). y.first) k.1 ∙ ap (λ (r : Row). r.start) (found-nth c);
      octets = ap (λ (y : After). y.second) k.1 ∙ ap (λ (r : Row). r.octets) (found-nth c);
    }

pub get-of : (b t : List ℕ) (x : ℕ) → sane_store (size_of b) t ≡ true → is_number x ≡ true → absent x (rows_of t) ≡ false
    → get_of b t x ≡ leaves (gotten b (rows_of t) (notes_of t) (nth (find_from x 0 (rows_of t)) (rows_of t)))
unfolding get_in
get-of b t x s n f = rw (s, n, f)
