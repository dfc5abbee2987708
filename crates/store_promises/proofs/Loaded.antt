-- Loading (R-6, R-8): the order TABLE, BAD, TABLE (`load-judged`, `load-bad-only`; and each the other way: `load-table-when`,
-- `load-bad-when`, `load-untrue-when`, `load-taken-when`); what a loading that is accepted tells (`Took`), and the table that it leaves
-- (`load-sane`, `load-true`).
use Prim.Native.Nat.{ℕ, zero, suc, ◌+◌, ◌≤◌}
use mathlib.Core.Path.{◌≡◌, refl, sym, ap, subst, ◌∙◌}
use mathlib.Core.List.{List, [], ◌∷◌, ◌++◌}
use mathlib.Core.Bool.{Bool, true, false, cond}
use native.Mathlib.Omega.{arith}
use lib.ListN.{length, drop, length-take, length-append}
use lib.Dec.{leb, ltb}
use borrow.Author.Tests.{le-ltb, ltb-true, ltb-false}
use Rattle.rules.specs.Judged.{bar}
use Rattle.rules.proofs.Judged.{by-each}
use Rattle.rules.specs.Tools.{most_law}
use Rattle.store_rows.specs.declared.rows.Row.{Row}
use Rattle.store_rows.specs.Limits.{size_of}
use Rattle.store_rows.specs.Rows.{greeting, contents}
use Rattle.store_rows.specs.Sane.{rising}
use Rattle.store_greeting.specs.Bad.{is_bad}
use Rattle.store_greeting.proofs.Bad.{bad-law}
use Rattle.store_greeting.specs.Marks.{Note, most_marks}
use Rattle.store_greeting.proofs.Count.{note-few}
use Rattle.store_notes.specs.Notes.{True}
use Rattle.store_notes.specs.Cells.{head_row, heads, stored}
use Rattle.store_notes.specs.Sane.{store_cells, matched, sane_store}
use Rattle.store_notes.proofs.Noting.{heads-cons}
use Rattle.store_notes.proofs.Pairs.{matched-nil, matched-cons}
use Rattle.store.specs.declared.Refusal.TheVariants.{Bad, Table}
use Rattle.store.specs.Store.{Outcome, leaves, refused, After}
use Rattle.text_keyvalue.specs.Reading.{Read, whole, none, and_then}
use Rattle.text_keyvalue.proofs.Exact.{through, got-value}
use Rattle.text_keyvalue.proofs.Exact.{passed as went}
use Rattle.store_text.specs.Table.{table_in}
use Rattle.store_text.specs.Noted.{Listed, listed, listed_from, rows_listed, notes_listed}
use Rattle.store_text.specs.Form.{form_of, formed_in}
use Rattle.store_text.proofs.Exact.{table-only}
use Rattle.store_text.proofs.Noting.{length-rows-listed}
use Rattle.store_save.specs.Saved.{any_bad, all_true, early, load_asks, load_in, load_read, load_of}
use Rattle.store_save.proofs.Bad.{rows-early}
use Rattle.store_rows.proofs.Rising.{rising-head}
use Rattle.store_promises.specs.Kept.{Good, Along}
use Rattle.store_promises.specs.Loading.{Lists, in-early, in-noted, Formed, loaded, Judged, unformed, bad, untrue, taken}
use Rattle.store_promises.proofs.Rising.{rising-nil, rising-cons}
use Rattle.store_promises.proofs.Numbers.{distinct_of}
use Rattle.store_promises.proofs.Contents.{length-greeting}
use Rattle.store_promises.proofs.Granted.{Stored, stored_back, stored-sane, good-some, no-outcome}
use Rattle.store_promises.proofs.Listed.{listed-good, listed-true, notes-listed}

-- a text lists one list of greetings
not-both : {A B : Type 0} {r : Read B} {x : B} {i : ℕ} → r ≡ none → r ≡ whole x i → A
not-both e f = let z : ◌≡◌ {A = ℕ} 0 1 = cc in absurd (omega arith)

false-true : {A : Type 0} {b : Bool} → b ≡ false → b ≡ true → A
false-true e f = let z : ◌≡◌ {A = ℕ} 0 1 = cc in absurd (omega arith)

pub lists-one : {text b : List ℕ} {xs ys : List Listed} → Lists text b xs → Lists text b ys → xs ≡ ys
lists-one {text} {b} (in-early e) (in-early f) = ap (early b) (got-value (sym e ∙ f))
lists-one (in-early e) (in-noted f g) = not-both f e
lists-one (in-noted e h) (in-early f) = not-both e f
lists-one (in-noted e h) (in-noted f g) = got-value (sym h ∙ g)

formed-one : {text b t : List ℕ} {xs ys : List Listed} → Formed text b t xs → Lists text b ys → xs ≡ ys
formed-one f l = lists-one f.lists l

-- the greetings, once they are read
module _ (text b t : List ℕ) (xs : List Listed) (c : store_cells (size_of b) ≤ length t) (l : Lists text b xs) where
  judged-in : Judged text b t (load_in b (size_of b) xs)
  unfolding load_in
  judged-in =
      by-each refused (leaves (loaded b xs)) (Judged text b t) (load_asks b (size_of b) xs) (
        λ p. unformed (λ ys f. let e = formed-one f l in false-true p (rw e at f.apart)),
        λ p. (
          λ q. unformed (λ ys f. let e = formed-one f l in false-true q (rw e at f.once)),
          λ q. let formed : Formed text b t xs = record { cells = c; lists = l; apart = p; once = q } in (
            λ r. bad formed r,
            λ r. (λ s. untrue formed r s, λ s. taken formed r s),
          ),
        ),
      )

no-lists : {text b : List ℕ} {A : Type 0} {xs : List Listed} → table_in text ≡ none → formed_in text ≡ none → Lists text b xs → A
no-lists e f (in-early g) = not-both e g
no-lists e f (in-noted g h) = not-both f h

pub load-judged : (text b t : List ℕ) → Judged text b t (load_of text b t)
load-judged text b t =
    by-each refused (load_read b (size_of b) (table_in text) (formed_in text)) (Judged text b t)
    (bar Table (ltb (length t) (store_cells (size_of b))) ∷ []) (
      λ p. unformed (λ xs f. let h = ltb-true (length t) (store_cells (size_of b)) p in absurd (omega (arith, f.cells))),
      λ p. go (ltb-false (length t) (store_cells (size_of b)) p) (table_in text) refl (formed_in text) refl,
    )
  where
    go : store_cells (size_of b) ≤ length t → (old : Read (List Row)) → table_in text ≡ old
        → (new : Read (List Listed)) → formed_in text ≡ new → Judged text b t (load_read b (size_of b) old new)
    go c (whole rows i) q new r = judged-in text b t (early b rows) c (in-early q)
    go c none q (whole xs i) r = judged-in text b t xs c (in-noted q r)
    go c none q none r = unformed (λ xs f. no-lists q r f.lists)

-- and the other way
pub read_as : {text b : List ℕ} {xs : List Listed} (size : ℕ) → Lists text b xs
    → load_read b size (table_in text) (formed_in text) ≡ load_in b size xs
read_as size (in-early e) = rw e
read_as size (in-noted e f) = rw (e, f)

module _ {text b t : List ℕ} {xs : List Listed} (f : Formed text b t xs) where
  as-in : load_of text b t ≡ load_in b (size_of b) xs
  as-in = rw (le-ltb (length t) (store_cells (size_of b)) f.cells) (read_as (size_of b) f.lists)

  pub load-bad-when : any_bad b xs ≡ true → load_of text b t ≡ refused Bad
  unfolding load_in
  load-bad-when g = as-in ∙ rw (f.apart, f.once, g)

  pub load-untrue-when : any_bad b xs ≡ false → all_true b xs ≡ false → load_of text b t ≡ refused Table
  unfolding load_in
  load-untrue-when g h = as-in ∙ rw (f.apart, f.once, g, h)

  pub load-taken-when : any_bad b xs ≡ false → all_true b xs ≡ true → load_of text b t ≡ leaves (loaded b xs)
  unfolding load_in
  load-taken-when g h = as-in ∙ rw (f.apart, f.once, g, h)

pub load-table-when : (text b t : List ℕ) → ((xs : List Listed) → Formed text b t xs → ⊥) → load_of text b t ≡ refused Table
load-table-when text b t n = go (load_of text b t) (load-judged text b t)
  where
    go : (o : Outcome) → Judged text b t o → o ≡ refused Table
    go o (unformed m) = refl
    go o (bad f g) = absurd (n _ f)
    go o (untrue f g h) = absurd (n _ f)
    go o (taken f g h) = absurd (n _ f)

-- BAD is given exactly when nothing is TABLE before it and a greeting is bad
pub record BadListed (text b t : List ℕ) : Type 0 where
  pub xs : List Listed
  pub formed : Formed text b t xs
  pub is-bad : any_bad b xs ≡ true

pub load-bad-only : (text b t : List ℕ) → load_of text b t ≡ refused Bad → BadListed text b t
load-bad-only text b t e = go (load_of text b t) (load-judged text b t) e
  where
    go : (o : Outcome) → Judged text b t o → o ≡ refused Bad → BadListed text b t
    go o (unformed m) e = let z : ◌≡◌ {A = ℕ} 0 1 = cc in absurd (omega arith)
    go o (bad {xs = xs} f g) e = record { xs = xs; formed = f; is-bad = g }
    go o (untrue f g h) e = let z : ◌≡◌ {A = ℕ} 0 1 = cc in absurd (omega arith)
    go o (taken f g h) e = let z : ◌≡◌ {A = ℕ} 0 1 = cc in absurd (omega arith)

-- what a loading that is accepted tells
pub record Took (text b t : List ℕ) (a : After) : Type 0 where
  pub xs : List Listed
  pub formed : Formed text b t xs
  pub good : any_bad b xs ≡ false
  pub true-marks : all_true b xs ≡ true
  pub is : a ≡ loaded b xs

pub load-took : (text b t : List ℕ) (a : After) → load_of text b t ≡ leaves a → Took text b t a
load-took text b t a e = go (load_of text b t) (load-judged text b t) e
  where
    go : (o : Outcome) → Judged text b t o → o ≡ leaves a → Took text b t a
    go o (unformed m) e = no-outcome e
    go o (bad f g) e = no-outcome e
    go o (untrue f g h) e = no-outcome e
    go o (taken {xs = xs} f g h) e = record { xs = xs; formed = f; good = g; true-marks = h; is = cc }

-- greetings that are not bad have an octet, and a law
some-rises : (b : List ℕ) (lo size : ℕ) (rows : List Row) (notes : List Note) → rising 0 lo size rows ≡ true → Good (contents b rows) notes
    → rising 1 lo size rows ≡ true
unfolding contents Along
some-rises b lo size [] notes h g = rising-nil 1 lo size
some-rises b lo size (r ∷ rows) [] h g = absurd g
some-rises b lo size (r ∷ rows) (n ∷ notes) h g =
    let k = rising-head 0 lo size r rows h in
    let m = k.0 in
    let s = good-some n.law (greeting b r) g.0 in
    let l = length-take r.octets (drop r.start b) in
    rising-cons 1 lo size r rows (record { above = m.above; some = omega arith; inside = m.inside })
    (some-rises b (r.start + r.octets) size rows notes k.1 g.1)

pub lawful : (law : ℕ) (xs : List ℕ) → is_bad law xs ≡ false → law ≤ most_law
lawful law xs e = go (ltb most_law law) refl
  where
    go : (t : Bool) → ltb most_law law ≡ t → law ≤ most_law
    go false p = ltb-false most_law law p
    go true p =
        false-true e (sym (bad-law law xs (good-some law xs e) (ltb-true most_law law p)))

pub true-matched : (b : List ℕ) (lo size : ℕ) (rows : List Row) (notes : List Note) → rising 0 lo size rows ≡ true → size ≤ length b
    → Good (contents b rows) notes → True (contents b rows) notes → matched rows (heads notes) ≡ true
unfolding contents Along True
true-matched b lo size [] notes h f g w = matched-nil (heads notes)
true-matched b lo size (r ∷ rows) [] h f g w = absurd g
true-matched b lo size (r ∷ rows) (n ∷ notes) h f g w =
    let k = rising-head 0 lo size r rows h in
    let l = length-greeting b r (omega (arith, k.0.inside)) in
    let m : length n.marks ≤ most_marks (length (greeting b r)) =
    subst (λ (o : Note). length o.marks ≤ most_marks (length (greeting b r))) (sym w.0) (note-few n.law (greeting b r)) in
    rw (heads-cons n notes) (matched-cons r (head_row n) rows (heads notes)
    (record { law = lawful n.law (greeting b r) g.0; marks = subst (λ (o : ℕ). length n.marks ≤ most_marks o) l m })
    (true-matched b (r.start + r.octets) size rows notes k.1 f g.1 w.1))

-- at most 32
few-from : (far more : ℕ) (done : List Listed) (text : List ℕ) (i : ℕ) (xs : List Listed) (j : ℕ)
    → listed_from far more done text i ≡ whole xs j → length xs ≤ length done + more
unfolding listed_from
few-from far zero done text i xs j e =
    let v = got-value (went (leb (length text) i) (whole done i) e).1 in
    let l = ap length v in
    omega arith
few-from far (suc more) done text i xs j e = go (leb (length text) i) e (λ r k. few-from far more (done ++ (r ∷ [])) text k xs j)
  where
    go : (t : Bool) → cond t (whole done i) (and_then (listed far text i) (λ r j. listed_from far more (done ++ (r ∷ [])) text j))
        ≡ whole xs j
        → ((r : Listed) (k : ℕ) → listed_from far more (done ++ (r ∷ [])) text k ≡ whole xs j → length xs ≤ length (done ++ (r ∷ [])) + more)
        → length xs ≤ length done + suc more
    go true e ih = let l = ap length (got-value e) in omega arith
    go false e ih =
        let m = through (listed far text i) _ e in
        omega (arith, ih m.value m.place m.then, length-append done (m.value ∷ []))

lists-few : {text b : List ℕ} {xs : List Listed} → Lists text b xs → length xs ≤ 32
lists-few {text} {b} (in-early {rows = rows} {i = i} e) =
    let r = ap length (rows-early b rows) in
    omega (arith, length-rows-listed (early b rows), (table-only text rows i e).few)
lists-few {text} {b} (in-noted {xs = xs} {i = i} e f) = few-from (form_of text).most 32 [] text (form_of text).from xs i f

module _ (text b t : List ℕ) {a : After} (e : load_of text b t ≡ leaves a) where
  took : Took text b t a
  took = load-took text b t a e

  abbrev read : List Listed
  read = took.xs

  goods : Good (contents b (rows_listed read)) (notes_listed read)
  goods = listed-good b read took.good

  trues : True (contents b (rows_listed read)) (notes_listed read)
  trues = listed-true b read took.true-marks

  pub load-good : Good (contents b a.rows) a.notes
  load-good = rw took.is goods

  pub load-true : True (contents b a.rows) a.notes
  load-true = rw took.is trues

  pub load-few : length a.rows ≤ 32
  load-few = rw took.is (omega (arith, length-rows-listed read, lists-few took.formed.lists))

  pub load_same : length a.notes ≡ length a.rows
  load_same = rw took.is (notes-listed read ∙ sym (length-rows-listed read))

  pub load-sane : sane_store (size_of b) (stored a.rows a.notes t) ≡ true
  load-sane =
      let f = took.formed in
      let rows = rows_listed read in
      let notes = notes_listed read in
      let n : length rows ≤ 32 = omega (arith, length-rows-listed read, lists-few f.lists) in
      let s : sane_store (size_of b) (stored rows notes t) ≡ true =
      stored-sane b rows notes t f.cells n (some-rises b 0 (size_of b) rows notes f.apart goods) (distinct_of rows f.once)
      (notes-listed read ∙ sym (length-rows-listed read)) (true-matched b 0 (size_of b) rows notes f.apart (omega arith) goods trues) in
      rw took.is s

  pub load-back : Stored a.rows a.notes t
  load-back = stored_back b a.rows a.notes t took.formed.cells load-few load_same
