-- A table that is written is read back, and no other text is read as it.
use Prim.Native.Nat.{ℕ, zero, suc, ◌+◌, ◌≤◌, ◌<◌}
use mathlib.Core.Path.{◌≡◌, refl, sym, ap, subst, ◌∙◌}
use mathlib.Core.List.{List, [], ◌∷◌, ◌++◌, append_assoc, append-nil}
use mathlib.Core.Bool.{Bool, true, false, cond}
use native.Mathlib.Omega.{arith}
use lib.ListN.{length, drop, length-append, length-drop, drop_of_length-le}
use lib.Dec.{leb}
use borrow.Author.Tests.{le-leb, lt-leb, leb-true}
use Rattle.store_rows.specs.declared.rows.Row.{Row}
use Rattle.store_rows.specs.Limits.{largest_block, most_number}
use Rattle.store_rows.specs.Rows.{row_of}
use Rattle.text_keyvalue.specs.Reading.{whole, and_then}
use Rattle.text_keyvalue.specs.Lines.{line_of, ranged}
use Rattle.text_keyvalue.proofs.Exact.{Back, back-bind, back_last, back-ranged, onward, Stands}
use Rattle.text_keyvalue.proofs.Exact.{chain, got-value, got-place, ranged-only, through, passed}
use Rattle.store_text.specs.Table.{prompt_word, start_word, octets_word, most_place, row, rows_from, table_in, row_text, table_text}

-- the numbers that lines can say, starts and counts of octets up to so many
pub record Sayable (far : ℕ) (r : Row) : Type 0 where
  pub least : 1 ≤ r.number
  pub most : r.number ≤ most_number
  pub start : r.start ≤ far
  pub octets : r.octets ≤ far

abbrev pub Each : {A : Type 0} → (A → Type 0) → List A → Type 0
Each p [] = Unit {0}
Each p (x ∷ xs) = p x × Each p xs

pub row_back : (far : ℕ) → far ≤ largest_block → (r : Row) → Sayable far r → Back (row far) (row_text r) r
unfolding row row_text
row_back far l r h =
    back-bind (ranged prompt_word 1 most_number) _
    (back-ranged prompt_word 1 most_number r.number (omega (arith, h.most)) h.least h.most)
    (back-bind (ranged start_word 0 far) _ (back-ranged start_word 0 far r.start (omega (arith, h.start)) (omega arith) h.start)
    (back_last (ranged octets_word 0 far) _ (back-ranged octets_word 0 far r.octets (omega (arith, h.octets)) (omega arith) h.octets)))

pub row-some : (r : Row) (rest : List ℕ) → 1 ≤ length (row_text r ++ rest)
unfolding row_text line_of
row-some r rest = omega arith

-- at the text's end the greetings are done
pub ending : (more : ℕ) (done : List Row) (text : List ℕ) (at : ℕ) → length text ≤ at → rows_from more done text at ≡ whole done at
unfolding rows_from
ending zero done text at h = rw (le-leb (length text) at h)
ending (suc more) done text at h = rw (le-leb (length text) at h)

rows_back : (more : ℕ) (done rows : List Row) (text : List ℕ) (i : ℕ) → Each (Sayable most_place) rows → length rows ≤ more
    → drop i text ≡ table_text rows → rows_from more done text i ≡ whole (done ++ rows) (i + length (table_text rows))
unfolding table_text rows_from
rows_back more done [] text i h l e =
    let n : length text ≤ i = omega (arith, length-drop i text, ap length e) in
    let z : i + 0 ≡ i = omega arith in
    rw (z, append-nil) (ending more done text i n)
rows_back zero done (r ∷ rows) text i h l e = absurd (omega arith)
rows_back (suc more) done (r ∷ rows) text i h l e =
    let n : i < length text = omega (arith, length-drop i text, ap length e, row-some r (table_text rows)) in
    let m : i + length (row_text r ++ table_text rows) ≡ i + length (row_text r) + length (table_text rows) =
    rw (length-append (row_text r) (table_text rows)) (omega arith) in
    rw (lt-leb (length text) i n, (row_back most_place (omega arith) r h.0).reads text i (table_text rows) e, m)
    (rows_back more (done ++ (r ∷ [])) rows text (i + length (row_text r)) h.1 (omega arith)
    (onward text (row_text r) (table_text rows) i e)
    ∙ ap (λ (l : List Row). whole l (i + length (row_text r) + length (table_text rows))) (append_assoc done (r ∷ []) rows))

-- What is written is read.
pub table-back : (rows : List Row) → Each (Sayable most_place) rows → length rows ≤ 32
    → table_in (table_text rows) ≡ whole rows (length (table_text rows))
table-back rows h l = rows_back 32 [] rows (table_text rows) 0 h l refl ∙ ap (whole rows) (omega arith)

row_same : (far : ℕ) → far ≤ largest_block → (text : List ℕ) (p s o i x y z : ℕ) → ranged prompt_word 1 most_number text i ≡ whole p x
    → ranged start_word 0 far text x ≡ whole s y
    → ranged octets_word 0 far text y ≡ whole o z → (Sayable far (row_of p s o)) × (Stands text i (row_text (row_of p s o)) z)
unfolding row_text
row_same far l text p s o i x y z a b c =
    let q = ranged-only prompt_word 1 most_number text i p x (omega arith) a in
    let t = ranged-only start_word 0 far text x s y (omega arith) b in
    let u = ranged-only octets_word 0 far text y o z (omega arith) c in
    (record { least = q.least; most = q.most; start = t.most; octets = u.most }, chain q.says (chain t.says u.says))

row_as : {far : ℕ} {text : List ℕ} {r q : Row} {i j k : ℕ} → r ≡ q → j ≡ k → (Sayable far r) × (Stands text i (row_text r) j)
    → (Sayable far q) × (Stands text i (row_text q) k)
row_as m n h = rw (← m, ← n) h

pub row-only : (far : ℕ) → far ≤ largest_block → (text : List ℕ) (i : ℕ) (r : Row) (j : ℕ) → row far text i ≡ whole r j
    → (Sayable far r) × (Stands text i (row_text r) j)
unfolding row
row-only far l text i r j e =
    let a = through (ranged prompt_word 1 most_number text i) _ e in
    let b = through (ranged start_word 0 far text a.place) _ a.then in
    let c = through (ranged octets_word 0 far text b.place) _ b.then in
    row_as (got-value c.then) (got-place c.then)
    (row_same far l text a.value b.value c.value i a.place b.place c.place a.first b.first c.first)

-- what was read after the greetings that were done
record More (done : List Row) (text : List ℕ) (i more : ℕ) (rows : List Row) : Type 0 where
  new : List Row
  all : rows ≡ done ++ new
  few : length new ≤ more
  each : Each (Sayable most_place) new
  says : drop i text ≡ table_text new

none_more : {done rows : List Row} {text : List ℕ} {i j more : ℕ} → length text ≤ i → whole done i ≡ whole rows j
    → More done text i more rows
unfolding table_text
none_more {done} {rows} {text} {i} {j} h e =
    record { new = []; all = sym (got-value e) ∙ sym (append-nil done); few = omega arith; each = tt; says = drop_of_length-le text h }

one_more : {done rows : List Row} {text : List ℕ} {i k more : ℕ} (r : Row) → row most_place text i ≡ whole r k
    → More (done ++ (r ∷ [])) text k more rows → More done text i (suc more) rows
unfolding table_text
one_more {done} {rows} {text} {i} {k} r e m =
    let f = row-only most_place (omega arith) text i r k e in
    record {
      new = r ∷ m.new;
      all = m.all ∙ append_assoc done (r ∷ []) m.new;
      few = omega (arith, m.few);
      each = (f.0, m.each);
      says = f.1.says ∙ ap (λ (l : List ℕ). row_text r ++ l) m.says;
    }

rows-only : (more : ℕ) (done : List Row) (text : List ℕ) (i : ℕ) (rows : List Row) (j : ℕ) → rows_from more done text i ≡ whole rows j
    → More done text i more rows
unfolding rows_from
rows-only zero done text i rows j e =
    let o = passed (leb (length text) i) (whole done i) e in
    none_more (leb-true (length text) i o.0) o.1
rows-only (suc more) done text i rows j e = go (leb (length text) i) refl e (λ r k. rows-only more (done ++ (r ∷ [])) text k rows j)
  where
    go : (t : Bool) → leb (length text) i ≡ t
        → cond t (whole done i) (and_then (row most_place text i) (λ r j. rows_from more (done ++ (r ∷ [])) text j)) ≡ whole rows j
        → ((r : Row) (k : ℕ) → rows_from more (done ++ (r ∷ [])) text k ≡ whole rows j → More (done ++ (r ∷ [])) text k more rows)
        → More done text i (suc more) rows
    go true h e ih = none_more (leb-true (length text) i h) e
    go false h e ih =
        let m = through (row most_place text i) _ e in
        one_more m.value m.first (ih m.value m.place m.then)

-- Nothing else is: at most 32 greetings, whose numbers lines can say, and the text is the one that is written of them.
pub record Listed (text : List ℕ) (rows : List Row) : Type 0 where
  pub few : length rows ≤ 32
  pub each : Each (Sayable most_place) rows
  pub says : text ≡ table_text rows

pub table-only : (text : List ℕ) (rows : List Row) (j : ℕ) → table_in text ≡ whole rows j → Listed text rows
table-only text rows j e =
    let m = rows-only 32 [] text 0 rows j e in
    subst (λ (l : List Row). Listed text l) (sym m.all) (record { few = m.few; each = m.each; says = m.says })
