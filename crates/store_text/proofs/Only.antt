-- R-8's lines, with R-11's first line and without it: no other text is read as a table than the one that is written of it (`noted-only`,
-- `formed-only`, `unformed-only`).
use Prim.Native.Nat.{ℕ, zero, suc, ◌+◌, ◌^◌, ◌≤◌, ◌<◌}
use mathlib.Core.Path.{◌≡◌, refl, sym, ap, subst, ◌∙◌}
use mathlib.Core.List.{List, [], ◌∷◌, ◌++◌, append_assoc, append-nil}
use mathlib.Core.Bool.{Bool, true, false, cond}
use native.Mathlib.Omega.{arith}
use lib.ListN.{length, drop, drop_of_length-le}
use lib.Dec.{leb}
use borrow.Author.Tests.{leb-true}
use Rattle.rules.specs.Tools.{most_law}
use Rattle.rules.specs.Listing.{line_end, law_word, samples_word}
use Rattle.store_rows.specs.declared.rows.Row.{Row}
use Rattle.store_rows.specs.Limits.{largest_block}
use Rattle.store_greeting.specs.Marks.{Mark, mark_of}
use Rattle.text_keyvalue.specs.Reading.{whole, and_then, begins, number}
use Rattle.text_keyvalue.specs.Lines.{line, ranged}
use Rattle.text_keyvalue.proofs.Exact.{Stands, chain, word-only, number-only, line-only, ranged-only, through, passed, got-value, got-place}
use Rattle.store_text.specs.Table.{most_place, row, row_text}
use Rattle.store_text.specs.Noted.{Listed, mark_word, comma, mark_line, mark_lines_from, mark_lines}
use Rattle.store_text.specs.Noted.{listed, listed_from, listed_at, listed_in, mark_text, marks_text, note_text, listed_text}
use Rattle.store_text.specs.Form.{form_line, formed_in}
use Rattle.store_text.proofs.Exact.{Sayable, Each, row-only}
use Rattle.store_text.proofs.Noted.{SayableMark}

-- samples and marks of up to 20 digits, as they are written; a text may say longer ones, but no walk gives them
pub record Short (x : Listed) : Type 0 where
  pub samples : x.note.samples < 10 ^ 20
  pub marks : Each SayableMark x.note.marks

-- a row that lines can say, and a law
pub record SayableHead (far : ℕ) (x : Listed) : Type 0 where
  pub row : Sayable far x.row
  pub law : x.note.law ≤ most_law

mark-only : (text : List ℕ) (i : ℕ) (m : Mark) (j : ℕ) → SayableMark m → mark_line text i ≡ whole m j → Stands text i (mark_text m) j
unfolding mark_line mark_text
mark-only text i m j h e =
    let k = passed (begins mark_word (drop i text)) _ e in
    let a = through (number text (i + 5)) _ k.1 in
    let c = passed (begins comma (drop a.place text)) _ a.then in
    let b = through (number text (a.place + 1)) _ c.1 in
    let d = passed (begins line_end (drop b.place text)) (whole (mark_of a.value b.value) (b.place + 1)) b.then in
    let v = got-value d.1 in
    let p : b.place + 1 ≡ j = got-place d.1 in
    let o : a.value ≡ m.octets = ap (λ (q : Mark). q.octets) v in
    let s : b.value ≡ m.samples = ap (λ (q : Mark). q.samples) v in
    let x = number-only text (i + 5) m.octets a.place h.octets (a.first ∙ ap (λ (n : ℕ). whole n a.place) o) in
    let y = number-only text (a.place + 1) m.samples b.place h.samples (b.first ∙ ap (λ (n : ℕ). whole n b.place) s) in
    rw (← p) (chain (chain (word-only mark_word text i k.0) x)
    (chain (chain (word-only comma text a.place c.0) y) (word-only line_end text b.place d.0)))

-- what was read after the marks that were done
record MoreMarks (done : List Mark) (text : List ℕ) (i : ℕ) (ms : List Mark) (j : ℕ) : Type 0 where
  new : List Mark
  all : ms ≡ done ++ new
  says : Each SayableMark new → Stands text i (marks_text new) j

no-marks : {done ms : List Mark} {text : List ℕ} {i j : ℕ} → whole done i ≡ whole ms j → MoreMarks done text i ms j
unfolding marks_text
no-marks {done} {ms} {text} {i} {j} e = record {
  new = [];
  all = sym (got-value e) ∙ sym (append-nil done);
  says = λ h. record { says = ap (λ (k : ℕ). drop k text) (got-place e) };
}

one-mark : {done ms : List Mark} {text : List ℕ} {i j k : ℕ} (m : Mark) → mark_line text i ≡ whole m k
    → MoreMarks (done ++ (m ∷ [])) text k ms j → MoreMarks done text i ms j
unfolding marks_text
one-mark {done} {ms} {text} {i} {j} {k} m e r = record {
  new = m ∷ r.new;
  all = r.all ∙ append_assoc done (m ∷ []) r.new;
  says = λ h. chain (mark-only text i m k h.0 e) (r.says h.1);
}

marks-from : (more : ℕ) (done : List Mark) (text : List ℕ) (i : ℕ) (ms : List Mark) (j : ℕ)
    → mark_lines_from more done text i ≡ whole ms j → MoreMarks done text i ms j
unfolding mark_lines_from
marks-from zero done text i ms j e = no-marks e
marks-from (suc more) done text i ms j e =
    go (begins mark_word (drop i text)) e (λ m k. marks-from more (done ++ (m ∷ [])) text k ms j)
  where
    go : (t : Bool)
        → cond t (and_then (mark_line text i) (λ m j. mark_lines_from more (done ++ (m ∷ [])) text j)) (whole done i) ≡ whole ms j
        → ((m : Mark) (k : ℕ) → mark_lines_from more (done ++ (m ∷ [])) text k ≡ whole ms j → MoreMarks (done ++ (m ∷ [])) text k ms j)
        → MoreMarks done text i ms j
    go false e ih = no-marks e
    go true e ih = let m = through (mark_line text i) _ e in one-mark m.value m.first (ih m.value m.place m.then)

marks-only : (ms : List Mark) (text : List ℕ) (i j : ℕ) → Each SayableMark ms → mark_lines text i ≡ whole ms j
    → Stands text i (marks_text ms) j
unfolding mark_lines
marks-only ms text i j h e =
    let m = marks-from (suc (length text)) [] text i ms j e in
    let q = m.all in
    rw q (m.says (rw q at h))

-- a greeting's lines
record One (far : ℕ) (text : List ℕ) (i : ℕ) (x : Listed) (j : ℕ) : Type 0 where
  head : SayableHead far x
  says : Short x → Stands text i (row_text x.row ++ note_text x.note) j

one-as : {far : ℕ} {text : List ℕ} {x y : Listed} {i j k : ℕ} → x ≡ y → j ≡ k → One far text i x j → One far text i y k
one-as m n h = rw (← m, ← n) h

one_same : (far : ℕ) → far ≤ largest_block → (text : List ℕ) (r : Row) (law samples : ℕ) (ms : List Mark) (i x y z w : ℕ)
    → row far text i ≡ whole r x → ranged law_word 0 most_law text x ≡ whole law y → line samples_word text y ≡ whole samples z
    → mark_lines text z ≡ whole ms w
    → One far text i (record { row = r; note = record { law = law; samples = samples; marks = ms } }) w
unfolding note_text
one_same far l text r law samples ms i x y z w a b c d =
    let f = row-only far l text i r x a in
    let g = ranged-only law_word 0 most_law text x law y (omega arith) b in
    record {
      head = record { row = f.0; law = g.most };
      says = λ h.
          chain f.1 (chain g.says (chain (line-only samples_word text y samples z h.samples c)
          (marks-only ms text z w h.marks d)));
    }

one_only : (far : ℕ) → far ≤ largest_block → (text : List ℕ) (i : ℕ) (x : Listed) (j : ℕ) → listed far text i ≡ whole x j
    → One far text i x j
unfolding listed
one_only far l text i x j e =
    let a = through (row far text i) _ e in
    let b = through (ranged law_word 0 most_law text a.place) _ a.then in
    let c = through (line samples_word text b.place) _ b.then in
    let d = through (mark_lines text c.place) _ c.then in
    one-as (got-value d.then) (got-place d.then)
    (one_same far l text a.value b.value c.value d.value i a.place b.place c.place d.place
    a.first b.first c.first d.first)

-- what was read after the greetings that were done
record More (far : ℕ) (done : List Listed) (text : List ℕ) (i more : ℕ) (xs : List Listed) : Type 0 where
  new : List Listed
  all : xs ≡ done ++ new
  few : length new ≤ more
  each : Each (SayableHead far) new
  says : Each Short new → drop i text ≡ listed_text new

none_more : {far : ℕ} {done xs : List Listed} {text : List ℕ} {i j more : ℕ} → length text ≤ i → whole done i ≡ whole xs j
    → More far done text i more xs
unfolding listed_text
none_more {far} {done} {xs} {text} {i} {j} h e = record {
  new = [];
  all = sym (got-value e) ∙ sym (append-nil done);
  few = omega arith;
  each = tt;
  says = λ s. drop_of_length-le text h;
}

one_more : {far : ℕ} {done xs : List Listed} {text : List ℕ} {i k more : ℕ} (x : Listed) → One far text i x k
    → More far (done ++ (x ∷ [])) text k more xs → More far done text i (suc more) xs
unfolding listed_text
one_more {far} {done} {xs} {text} {i} {k} x f m = record {
  new = x ∷ m.new;
  all = m.all ∙ append_assoc done (x ∷ []) m.new;
  few = omega (arith, m.few);
  each = (f.head, m.each);
  says = λ h.
      let w = row_text x.row in
      let v = note_text x.note in
      (f.says h.0).says ∙ ap (λ (l : List ℕ). (w ++ v) ++ l) (m.says h.1) ∙ append_assoc w v (listed_text m.new);
}

listed-from : (far : ℕ) → far ≤ largest_block → (more : ℕ) (done : List Listed) (text : List ℕ) (i : ℕ) (xs : List Listed) (j : ℕ)
    → listed_from far more done text i ≡ whole xs j → More far done text i more xs
unfolding listed_from
listed-from far l zero done text i xs j e =
    let o = passed (leb (length text) i) (whole done i) e in
    none_more (leb-true (length text) i o.0) o.1
listed-from far l (suc more) done text i xs j e =
    go (leb (length text) i) refl e (λ x k. listed-from far l more (done ++ (x ∷ [])) text k xs j)
  where
    go : (t : Bool) → leb (length text) i ≡ t
        → cond t (whole done i) (and_then (listed far text i) (λ x j. listed_from far more (done ++ (x ∷ [])) text j)) ≡ whole xs j
        → ((x : Listed) (k : ℕ) → listed_from far more (done ++ (x ∷ [])) text k ≡ whole xs j
        → More far (done ++ (x ∷ [])) text k more xs)
        → More far done text i (suc more) xs
    go true h e ih = none_more (leb-true (length text) i h) e
    go false h e ih =
        let m = through (listed far text i) _ e in
        one_more m.value (one_only far l text i m.value m.place m.first) (ih m.value m.place m.then)

-- Nothing else is: at most 32 greetings, whose numbers and laws lines can say, starts and counts of octets up to so many; and, where
-- samples and marks have at most 20 digits, the text is the one that is written of them.
pub record Only (far : ℕ) (first text : List ℕ) (xs : List Listed) : Type 0 where
  pub few : length xs ≤ 32
  pub each : Each (SayableHead far) xs
  pub says : Each Short xs → text ≡ first ++ listed_text xs

only-from : (far from : ℕ) → far ≤ largest_block → (first text : List ℕ) → text ≡ first ++ drop from text → (xs : List Listed) (j : ℕ)
    → listed_at far from text ≡ whole xs j → Only far first text xs
only-from far from l first text f xs j e =
    let m = listed-from far l 32 [] text from xs j e in
    subst (λ (ys : List Listed). Only far first text ys) (sym m.all)
    (record { few = m.few; each = m.each; says = λ h. f ∙ ap (λ (r : List ℕ). first ++ r) (m.says h) })

pub noted-only : (text : List ℕ) (xs : List Listed) (j : ℕ) → listed_in text ≡ whole xs j → Only most_place [] text xs
noted-only text xs j e = only-from most_place 0 (omega arith) [] text refl xs j e

module _ (text : List ℕ) (xs : List Listed) (j : ℕ) (e : formed_in text ≡ whole xs j) where
  pub formed-only : begins form_line text ≡ true → Only largest_block form_line text xs
  formed-only f =
      only-from largest_block 7 (omega arith) form_line text (word-only form_line text 0 f).says xs j (rw f at e)

  pub unformed-only : begins form_line text ≡ false → Only most_place [] text xs
  unformed-only f = noted-only text xs j (rw f at e)
