-- R-11: "without it, a start or octet count above 65,535 is TABLE", for all lines, whatever their other numbers say. What is read without
-- `form=2` is read behind it as the same (`listed-wider`); so lines with such a number are not read without it: R-8's (`far-unread`) and
-- R-6's (`far-rows-unread`).
use Prim.Native.Nat.{ℕ, zero, suc, ◌+◌, ◌≤◌}
use mathlib.Core.Path.{◌≡◌, refl, sym, ap, ◌∙◌}
use mathlib.Core.List.{List, [], ◌∷◌, ◌++◌}
use mathlib.Core.Bool.{Bool, true, false, cond}
use native.Mathlib.Omega.{arith}
use lib.ListN.{length, drop}
use lib.Dec.{leb}
use borrow.Author.Tests.{leb-true, le-leb, le-ltb}
use Rattle.rules.proofs.Tests.{and_left, and_right}
use Rattle.store_rows.specs.declared.rows.Row.{Row}
use Rattle.store_rows.specs.Limits.{largest_block, most_number}
use Rattle.text_keyvalue.specs.Reading.{Read, whole, none, and_then}
use Rattle.text_keyvalue.specs.Lines.{line, ranged, is_within}
use Rattle.text_keyvalue.proofs.Exact.{onward, through, passed, got-value}
use Rattle.store_text.specs.Table.{prompt_word, start_word, octets_word, most_place, row, table_in, row_text, table_text}
use Rattle.store_text.specs.Noted.{Listed, listed, listed_from, listed_at, listed_in, rows_listed}
use Rattle.store_text.specs.Form.{any_far}
use Rattle.store_text.proofs.Exact.{Sayable, Each, row_back, row-some, table-only}
use Rattle.store_text.proofs.Noted.{rows-refused}
use Rattle.store_text.proofs.Only.{SayableHead, noted-only}

-- a wider range reads what a narrower one does
ranged-wider : (key : List ℕ) (low far wide : ℕ) → far ≤ wide → (text : List ℕ) (i n j : ℕ) → ranged key low far text i ≡ whole n j
    → ranged key low wide text i ≡ whole n j
unfolding ranged
ranged-wider key low far wide l text i n j e =
    let m = through (line key text i) _ e in
    let o = passed (is_within low far m.value) (whole m.value m.place) m.then in
    let p = and_left (leb low m.value) (leb m.value far) o.0 in
    let q = leb-true m.value far (and_right (leb low m.value) (leb m.value far) o.0) in
    rw (m.first, p, le-leb m.value wide (omega arith)) o.1

module _ (far wide : ℕ) (l : far ≤ wide) (text : List ℕ) where
  row-wider : (i : ℕ) (r : Row) (j : ℕ) → row far text i ≡ whole r j → row wide text i ≡ whole r j
  unfolding row
  row-wider i r j e =
      let a = through (ranged prompt_word 1 most_number text i) _ e in
      let b = through (ranged start_word 0 far text a.place) _ a.then in
      let c = through (ranged octets_word 0 far text b.place) _ b.then in
      let s = ranged-wider start_word 0 far wide l text a.place b.value b.place b.first in
      let o = ranged-wider octets_word 0 far wide l text b.place c.value c.place c.first in
      rw (a.first, s, o) c.then

  one-wider : (i : ℕ) (x : Listed) (j : ℕ) → listed far text i ≡ whole x j → listed wide text i ≡ whole x j
  unfolding listed
  one-wider i x j e =
      let a = through (row far text i) _ e in
      rw (row-wider i a.value a.place a.first) a.then

  from-wider : (more : ℕ) (done : List Listed) (i : ℕ) (xs : List Listed) (j : ℕ) → listed_from far more done text i ≡ whole xs j
      → listed_from wide more done text i ≡ whole xs j
  unfolding listed_from
  from-wider zero done i xs j e = e
  from-wider (suc more) done i xs j e = go (leb (length text) i) e (λ x k. from-wider more (done ++ (x ∷ [])) k xs j)
    where
      go : (t : Bool)
          → cond t (whole done i) (and_then (listed far text i) (λ x j. listed_from far more (done ++ (x ∷ [])) text j)) ≡ whole xs j
          → ((x : Listed) (k : ℕ) → listed_from far more (done ++ (x ∷ [])) text k ≡ whole xs j
          → listed_from wide more (done ++ (x ∷ [])) text k ≡ whole xs j)
          → cond t (whole done i) (and_then (listed wide text i) (λ x j. listed_from wide more (done ++ (x ∷ [])) text j)) ≡ whole xs j
      go true e ih = e
      go false e ih =
          let m = through (listed far text i) _ e in
          rw (one-wider i m.value m.place m.first) (ih m.value m.place m.then)

  pub listed-wider : (from : ℕ) (xs : List Listed) (j : ℕ) → listed_at far from text ≡ whole xs j → listed_at wide from text ≡ whole xs j
  listed-wider from xs j e = from-wider 32 [] from xs j e

-- greetings of which no start and no count of octets exceeds 65,535
pub rows-near : (rows : List Row) → Each (Sayable most_place) rows → any_far rows ≡ false
unfolding any_far
rows-near [] h = refl
rows-near (r ∷ rows) h =
    rw (le-ltb most_place r.start h.0.start, le-ltb most_place r.octets h.0.octets) (rows-near rows h.1)

pub heads-rows : (far : ℕ) (xs : List Listed) → Each (SayableHead far) xs → Each (Sayable far) (rows_listed xs)
unfolding rows_listed
heads-rows far [] h = tt
heads-rows far (x ∷ xs) h = (h.0.row, heads-rows far xs h.1)

pub noted-near : (text : List ℕ) (xs : List Listed) (j : ℕ) → listed_in text ≡ whole xs j → any_far (rows_listed xs) ≡ false
noted-near text xs j e = rows-near (rows_listed xs) (heads-rows most_place xs (noted-only text xs j e).each)

pub table-near : (text : List ℕ) (rows : List Row) (j : ℕ) → table_in text ≡ whole rows j → any_far rows ≡ false
table-near text rows j e = rows-near rows (table-only text rows j e).each

clash : {A : Type 0} {b : Bool} → b ≡ true → b ≡ false → A
clash e f = let z : ◌≡◌ {A = ℕ} 0 1 = cc in absurd (omega arith)

none_of : {A : Type 0} (r : Read A) → ((x : A) (j : ℕ) → r ≡ whole x j → ⊥) → r ≡ none
none_of (whole x j) n = absurd (n x j refl)
none_of none n = refl

no_whole : {A : Type 0} {x : A} {j : ℕ} → none ≡ whole x j → ⊥
no_whole e = let z : ◌≡◌ {A = ℕ} 0 1 = cc in absurd (omega arith)

-- R-8's lines, as they are read behind the line
pub far-unread : (text : List ℕ) (xs : List Listed) (j : ℕ) → listed_at largest_block 0 text ≡ whole xs j → any_far (rows_listed xs) ≡ true
    → listed_in text ≡ none
far-unread text xs j e f = none_of (listed_in text) (λ ys k g.
    let w = listed-wider most_place largest_block (omega arith) text 0 ys k g in
    let s : ys ≡ xs = got-value (sym w ∙ e) in
    clash f (sym (ap (λ (l : List Listed). any_far (rows_listed l)) s) ∙ noted-near text ys k g))

-- R-6's lines: their text tells the greetings
table-one : (rows rest : List Row) → Each (Sayable largest_block) rows → Each (Sayable largest_block) rest → table_text rows ≡ table_text rest
    → rows ≡ rest
unfolding table_text
table-one [] [] h g e = refl
table-one [] (q ∷ rest) h g e = absurd (omega (arith, ap length e, row-some q (table_text rest)))
table-one (r ∷ rows) [] h g e = absurd (omega (arith, ap length e, row-some r (table_text rows)))
table-one (r ∷ rows) (q ∷ rest) h g e =
    let text = row_text r ++ table_text rows in
    let a = (row_back largest_block (omega arith) r h.0).reads text 0 (table_text rows) refl in
    let b = (row_back largest_block (omega arith) q g.0).reads text 0 (table_text rest) e in
    let s : r ≡ q = got-value (sym a ∙ b) in
    let u = onward text (row_text r) (table_text rows) 0 refl in
    let v = onward text (row_text q) (table_text rest) 0 e in
    let w : table_text rows ≡ table_text rest = sym u ∙ ap (λ (y : Row). drop (0 + length (row_text y)) text) s ∙ v in
    ap (λ (y : Row). y ∷ rows) s ∙ ap (λ (l : List Row). q ∷ l) (table-one rows rest h.1 g.1 w)

pub wider : (rows : List Row) → Each (Sayable most_place) rows → Each (Sayable largest_block) rows
wider [] h = tt
wider (r ∷ rows) h =
    let s = h.0 in (
      record { least = s.least; most = s.most; start = omega (arith, s.start); octets = omega (arith, s.octets) },
      wider rows h.1,
    )

module _ (rows : List Row) (h : Each (Sayable largest_block) rows) (f : any_far rows ≡ true) where
  far-rows : table_in (table_text rows) ≡ none
  far-rows = none_of (table_in (table_text rows)) (λ ys k g.
      let o = table-only (table_text rows) ys k g in
      let s = table-one rows ys h (wider ys o.each) o.says in
      clash f (ap any_far s ∙ table-near (table_text rows) ys k g))

  far-noted : listed_in (table_text rows) ≡ none
  unfolding any_far
  far-noted = go rows h f
    where
      go : (l : List Row) → Each (Sayable largest_block) l → any_far l ≡ true → listed_in (table_text l) ≡ none
      go [] h f = clash f refl
      go (r ∷ rest) h f = none_of (listed_in (table_text (r ∷ rest))) (λ ys k g.
          let w = listed-wider most_place largest_block (omega arith) (table_text (r ∷ rest)) 0 ys k g in
          no_whole (sym (rows-refused largest_block (omega arith) r rest h.0 (table_text (r ∷ rest)) 0 refl) ∙ w))

  pub far-rows-unread : (table_in (table_text rows) ≡ none) × (listed_in (table_text rows) ≡ none)
  far-rows-unread = (far-rows, far-noted)
