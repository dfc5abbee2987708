-- A table with other rows laid over its own: its notes stay (`laid-notes`), and it is a table that calls leave (`laid-keeps`).
--   `closing-keeps`: so are the tables between two moves, whatever their number; `next-moved`: what `next` tells, `moved` takes.
--   `renumber-keeps`: so is the table with one greeting renumbered.
use Prim.Native.Nat.{ℕ, ◌+◌, ◌*◌, ◌≤◌, min}
use mathlib.Core.Path.{◌≡◌, refl, sym, ap, subst, ◌∙◌}
use mathlib.Core.List.{List, [], ◌∷◌, ◌++◌}
use mathlib.Core.Bool.{Bool, true, false, cond, not}
use native.Mathlib.Omega.{arith}
use lib.ListN.{length, drop, get_or, length-append, length-drop}
use lib.Seq.{drop_at, take_at, get_or-drop}
use lib.Dec.{eqb, ltb}
use borrow.Author.Tests.{le-ltb, eq-eqb}
use Rattle.store_rows.specs.declared.rows.Row.{Row}
use Rattle.store_rows.specs.Limits.{largest_block, most_number, size_of, is_number}
use Rattle.store_rows.specs.Rows.{held, Kept, contents}
use Rattle.store_rows.specs.Finding.{absent, find_from}
use Rattle.store_rows.specs.Cells.{rows_of, cells_of, laid}
use Rattle.store_rows.specs.Sane.{rising, numbered, sane_of}
use Rattle.store_rows.specs.Changed.{nth, insert_at}
use Rattle.store_rows.proofs.Lists.{same_drop}
use Rattle.store_rows.proofs.Cells.{length-rows, length-cells, rows-laid, count-laid}
use Rattle.store_greeting.specs.Marks.{Note}
use Rattle.store_notes.specs.Notes.{True}
use Rattle.store_notes.specs.Cells.{heads_of, notes_in, notes_of}
use Rattle.store_notes.specs.Sane.{store_cells, matched, sane_store}
use Rattle.store_notes.proofs.Noting.{heads-notes}
use Rattle.store_notes.proofs.Matched.{sane-noted}
use Rattle.store.specs.declared.Refusal.{Refusal}
use Rattle.store.specs.declared.Refusal.TheVariants.{Number, Absent, Taken}
use Rattle.store_promises.specs.Told.{Store, rows_in, notes_for}
use Rattle.store_promises.specs.Kept.{Along, Good}
use Rattle.store_promises.proofs.Along.{length-contents}
use Rattle.store_promises.proofs.Rising.{rising-any}
use Rattle.store_promises.proofs.Numbers.{Fresh, Distinct, fresh-of, numbered_of, distinct_remove, inserted-distinct, fresh-append}
use Rattle.store_promises.proofs.Numbers.{fresh-join}
use Rattle.store_promises.proofs.Numbers.{FoundAt, find-split}
use Rattle.store_promises.proofs.Granted.{low-number, high-number}
use Rattle.store_promises.proofs.Loaded.{true-matched}
use Rattle.store_promises.proofs.Promises.{Keeps}
use Rattle.std.specs.Prelude.{Some}
use Rattle.store_moves.specs.Next.{next_of, replace_at, moved_at, renumbered_to, renumbered_at, changes, refused, moved_in, renumber_in}
use Rattle.store_moves.specs.Calls.{moved_of}
use Rattle.store_moves.proofs.Calling.{number_is, moved-there}
use Rattle.store_cut.specs.Lasting.{Lasting, made_all}
use Rattle.store_cut.specs.Writes.{closing_writes}
use Rattle.store_cut.specs.Closing.{closing_rows}
use Rattle.store_cut.specs.Runs.{contents_of}
use Rattle.store_cut.proofs.Stands.{Fine}
use Rattle.store_cut.proofs.Cut.{Rests, next-away, goes-row, replaced, closing-made}
use Rattle.store_cut.proofs.Calls.{keeps-fine}

-- ---- other rows in the cells of a table

module _ (rows : List Row) (t : List ℕ) where
  laid_from : (k : ℕ) → 1 + 3 * length rows ≤ k → drop k (laid rows t) ≡ drop k t
  unfolding laid
  laid_from k h =
      let n = 1 + 3 * length rows in
      same_drop n k ((length rows ∷ cells_of rows) ++ drop n t) t
      (drop_at (length rows ∷ cells_of rows) (drop n t) n (omega (arith, length-cells rows))) h

  laid-long : 1 + 3 * length rows ≤ length t → length (laid rows t) ≡ length t
  unfolding laid
  laid-long h =
      let n = 1 + 3 * length rows in
      length-append (length rows ∷ cells_of rows) (drop n t) ∙ omega (arith, length-cells rows, length-drop n t)

  module _ (few : length rows ≤ 32) where
    laid-heads : heads_of (laid rows t) ≡ heads_of t
    laid-heads = ap rows_of (laid_from 97 (omega arith))

    pub laid-notes : notes_of (laid rows t) ≡ notes_of t
    laid-notes =
        ap (λ (hs : List Row). notes_in hs (drop 194 (laid rows t))) laid-heads ∙ ap (notes_in (heads_of t)) (laid_from 194 (omega arith))

  -- as many of them, and each as the notes fit it
  pub laid-sane : (size : ℕ) → sane_store size t ≡ true → length rows ≡ length (rows_of t) → rising 1 0 size rows ≡ true
      → numbered rows ≡ true → matched rows (heads_of t) ≡ true → sane_store size (laid rows t) ≡ true
  unfolding sane_store sane_of
  laid-sane size s l r n m =
      let k = sane-noted size t s in
      let c : length rows ≡ get_or t 0 0 = l ∙ length-rows t (get_or t 0 0) 1 in
      let few : length rows ≤ 32 = omega (arith, k.order.few) in
      let long = laid-long (omega (arith, k.cells)) in
      let l₁ : ltb (length (laid rows t)) (store_cells size) ≡ false = le-ltb (length (laid rows t)) (store_cells size)
      (omega (arith, k.cells)) in
      let l₂ : ltb (length (laid rows t)) 97 ≡ false = le-ltb (length (laid rows t)) 97 (omega (arith, k.cells)) in
      let second : get_or (laid rows t) 97 0 ≡ length rows =
      sym (get_or-drop 97 (laid rows t) 0 0) ∙ ap (λ (u : List ℕ). get_or u 0 0) (laid_from 97 (omega arith)) ∙ get_or-drop 97 t 0 0 ∙ k.count
      ∙ sym c in
      rw (
        l₁,
        l₂,
        rows-laid rows t,
        count-laid rows t,
        laid-heads few,
        second,
        le-ltb 32 (length rows) few,
        eq-eqb (length rows) (length rows) refl,
        r,
        n,
        m,
      )

-- a store with another block and other rows, that read as many greetings which the notes are true to
abbrev pub relaid : List ℕ → List Row → Store → Store
relaid b rows s = record { block = b; table = laid rows s.table; put = held rows; deleted = 0 }

pub laid-keeps : {size : ℕ} {K : List Kept} {s : Store} (b : List ℕ) (rows : List Row) → Keeps size s → Fine size K b rows
    → length rows ≡ length (rows_in s) → Good K (notes_for s) → True K (notes_for s) → Keeps size (relaid b rows s)
laid-keeps {size} {K} {s} b rows k f l g m =
    let z : size_of b ≡ size_of s.block = ap (λ (y : ℕ). min y largest_block) (f.long ∙ sym k.long) in
    let w : min size largest_block ≡ size_of s.block = ap (λ (y : ℕ). min y largest_block) (sym k.long) in
    let h = subst (λ (y : ℕ). rising 1 0 y rows ≡ true) w f.rises in
    let g' = subst (λ (ks : List Kept). Good ks (notes_for s)) (sym f.reads) g in
    let m' = subst (λ (ks : List Kept). True ks (notes_for s)) (sym f.reads) m in
    let fit = true-matched b 0 (size_of s.block) rows (notes_for s) (rising-any 0 (size_of s.block) rows h) (omega (arith, z)) g' m' in
    let fit' = subst (λ (hs : List Row). matched rows hs ≡ true) (heads-notes (heads_of s.table) (drop 194 s.table)) fit in
    let rows_are = rows-laid rows s.table in
    let notes-are = laid-notes rows s.table f.few in
    record {
      sane = rw z (laid-sane rows s.table (size_of s.block) k.sane l h (numbered_of rows f.apart) fit');
      long = f.long;
      good = rw (rows_are, notes-are) g';
      marks = rw (rows_are, notes-are) m';
      total = rw rows_are (omega arith);
    }

-- ---- the tables between two moves

-- after so many of them
pub closing-keeps : (n : ℕ) {size page : ℕ} {s : Store} {l : Lasting} → Keeps size s
    → Rests size (contents_of s) (notes_for s) page (rows_in s) l
    → Keeps size (relaid (made_all (closing_writes n page l (rows_in s) (notes_for s) (next_of (rows_in s))) l).block
    (closing_rows n (rows_in s) (next_of (rows_in s))) s)
closing-keeps n {size} {page} {s} {l} k z =
    let e = closing-made n z in
    let f = e.rests.fine in
    let b = (made_all (closing_writes n page l (rows_in s) (notes_for s) (next_of (rows_in s))) l).block in
    let rows = closing_rows n (rows_in s) (next_of (rows_in s)) in
    let count : length rows ≡ length (rows_in s) = sym (length-contents b rows) ∙ ap length f.reads
    ∙ length-contents s.block (rows_in s) in
    laid-keeps b rows k f count k.good k.marks

distinct-among : (pre : List Row) (r : Row) (post : List Row) → Distinct (pre ++ (r ∷ post)) → (1 ≤ r.number) × (r.number ≤ most_number)
unfolding Distinct
distinct-among [] r post d = (d.0, d.1)
distinct-among (a ∷ pre) r post d = distinct-among pre r post d.3

absent-among : (pre : List Row) (r : Row) (post : List Row) → absent r.number (pre ++ (r ∷ post)) ≡ false
unfolding absent
absent-among [] r post = rw (eq-eqb r.number r.number refl)
absent-among (a ∷ pre) r post = go (eqb a.number r.number) (absent-among pre r post)
  where
    go : (x : Bool) → absent r.number (pre ++ (r ∷ post)) ≡ false → cond x false (absent r.number (pre ++ (r ∷ post))) ≡ false
    go true e = refl
    go false e = e

-- "number, .., to" as `next` tells them: `moved` takes them, and leaves the table with that greeting there
pub next-moved : {size i at : ℕ} {s : Store} → Keeps size s → Some (i, at) ≡ next_of (rows_in s)
    → moved_of s.block s.table (nth i (rows_in s)).number at ≡ changes (moved_at i at (rows_in s))
next-moved {size} {i} {at} {s} k e =
    let rows = rows_in s in
    let a = next-away 0 0 rows e in
    let r = goes-row rows a.pre a.row a.post i a.is (omega (arith, a.index)) in
    let d = distinct-among a.pre a.row a.post (subst Distinct a.is (keeps-fine k).apart) in
    let x = a.row.number in
    let there : absent x rows ≡ false = ap (λ (rs : List Row). absent x rs) a.is ∙ absent-among a.pre a.row a.post in
    let number_of_lem = ap (λ (y : Row). y.number) r in
    rw k.sane (ap (λ (v : ℕ). moved_in rows v at) number_of_lem
    ∙ moved-there rows x at (sym (number_is x d.0 d.1)) there (sym e) number_of_lem refl)

-- ---- a greeting renumbered

pub record Renumbers (rows : List Row) (y x : ℕ) (rows' : List Row) : Type 0 where
  pub numbers : is_number x ≡ true
  pub free : absent x rows ≡ true
  pub found : FoundAt y 0 rows
  pub is : rows' ≡ found.before ++ (renumbered_to x found.row ∷ found.behind)

same-changes : {a c : List Row} → changes a ≡ changes c → c ≡ a
same-changes e = cc

pub unchanged : {A : Type 0} {rows : List Row} {w : Refusal} → refused w ≡ changes rows → A
unchanged e = let z : ◌≡◌ {A = ℕ} 0 1 = cc in absurd (omega arith)

pub renumber-only : (rows : List Row) (y x : ℕ) {rows' : List Row} → renumber_in rows y x ≡ changes rows' → Renumbers rows y x rows'
unfolding renumber_in
renumber-only rows y x {rows'} e = go (is_number y) (is_number x) (absent y rows) (absent x rows) refl refl refl e
  where
    go : (p q r f : Bool) → is_number x ≡ q → absent y rows ≡ r → absent x rows ≡ f
        → cond (not p) (refused Number) (cond (not q) (refused Number) (cond r (refused Absent) (cond (not f) (refused Taken)
        (changes (renumbered_at (find_from y 0 rows) x rows))))) ≡ changes rows' → Renumbers rows y x rows'
    go false q r f a b c h = unchanged h
    go true false r f a b c h = unchanged h
    go true true true f a b c h = unchanged h
    go true true false false a b c h = unchanged h
    go true true false true a b c h =
        let k = find-split y 0 rows b in
        let i = find_from y 0 rows in
        let p : i ≡ length k.before = k.place ∙ omega arith in
        let n = goes-row rows k.before k.row k.behind i k.is p in
        record {
          numbers = a;
          free = c;
          found = k;
          is =
              same-changes h ∙ ap (λ (r : Row). replace_at i (renumbered_to x r) rows) n
              ∙ replaced rows k.before k.row k.behind i (renumbered_to x k.row) k.is p;
        }

-- it stays where it is, and reads the same
module _ (b : List ℕ) (x : ℕ) (r : Row) (post : List Row) where
  renumber-rises : (pre : List Row) (least at size : ℕ)
      → rising least at size (pre ++ (renumbered_to x r ∷ post)) ≡ rising least at size (pre ++ (r ∷ post))
  unfolding rising
  renumber-rises [] least at size = refl
  renumber-rises (a ∷ pre) least at size =
      ap (λ (v : Bool). cond (ltb a.start at) false
      (cond (ltb a.octets least) false (cond (ltb size (a.start + a.octets)) false v)))
      (renumber-rises pre least (a.start + a.octets) size)

  renumber-good : (pre : List Row) (notes : List Note) → Good (contents b (pre ++ (r ∷ post))) notes
      → Good (contents b (pre ++ (renumbered_to x r ∷ post))) notes
  unfolding Along contents
  renumber-good [] [] h = h
  renumber-good [] (n ∷ notes) h = h
  renumber-good (a ∷ pre) [] h = h
  renumber-good (a ∷ pre) (n ∷ notes) h = (h.0, renumber-good pre notes h.1)

  renumber-true : (pre : List Row) (notes : List Note) → True (contents b (pre ++ (r ∷ post))) notes
      → True (contents b (pre ++ (renumbered_to x r ∷ post))) notes
  unfolding True contents
  renumber-true [] [] h = h
  renumber-true [] (n ∷ notes) h = h
  renumber-true (a ∷ pre) [] h = h
  renumber-true (a ∷ pre) (n ∷ notes) h = (h.0, renumber-true pre notes h.1)

renumber-distinct : (x : ℕ) (pre : List Row) (r : Row) (post : List Row) → is_number x ≡ true → Fresh x (pre ++ (r ∷ post))
    → Distinct (pre ++ (r ∷ post)) → Distinct (pre ++ (renumbered_to x r ∷ post))
unfolding Fresh
renumber-distinct x pre r post n f d =
    let new = renumbered_to x r in
    let g = fresh-append x pre (r ∷ post) f in
    let w = inserted-distinct (length pre) new (pre ++ post) (low-number x n) (high-number x n) (fresh-join x pre post g.0 g.1.1)
    (distinct_remove pre r post d) in
    let e : insert_at (length pre) new (pre ++ post) ≡ pre ++ (new ∷ post) =
    rw (take_at pre post (length pre) refl, drop_at pre post (length pre) refl) refl in
    subst Distinct e w

pub renumber-keeps : {size : ℕ} {s : Store} {rows : List Row} (y x : ℕ) → Keeps size s → renumber_in (rows_in s) y x ≡ changes rows
    → Keeps size (relaid s.block rows s)
renumber-keeps {size} {s} {rows} y x k e =
    let c = renumber-only (rows_in s) y x e in
    let d = c.found in
    let pre = d.before in
    let r = d.row in
    let post = d.behind in
    let b = s.block in
    let f = keeps-fine k in
    let rows' = pre ++ (renumbered_to x r ∷ post) in
    let long = length-append pre (r ∷ post) in
    let long' = length-append pre (renumbered_to x r ∷ post) in
    let same = ap length d.is in
    let g = subst (λ (rs : List Row). Good (contents b rs) (notes_for s)) d.is k.good in
    let m = subst (λ (rs : List Row). True (contents b rs) (notes_for s)) d.is k.marks in
    let fresh = subst (Fresh x) d.is (fresh-of x (rows_in s) c.free) in
    let fine : Fine size (contents b rows') b rows' = record {
      long = f.long;
      few = omega (arith, f.few);
      rises =
          renumber-rises b x r post pre 1 0 (min size largest_block)
          ∙ subst (λ (rs : List Row). rising 1 0 (min size largest_block) rs ≡ true)
          d.is f.rises;
      apart = renumber-distinct x pre r post c.numbers fresh (subst Distinct d.is f.apart);
      reads = refl;
    } in
    subst (λ (rs : List Row). Keeps size (relaid b rs s)) (sym c.is)
    (laid-keeps b rows' k fine (omega arith) (renumber-good b x r post pre (notes_for s) g) (renumber-true b x r post pre (notes_for s) m))
