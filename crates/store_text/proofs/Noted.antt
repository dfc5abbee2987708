-- R-8's lines: what is written is read back (`noted_back`). No text with a greeting is of both kinds of lines: `early-refuses`,
-- `noted-refuses`.
use Prim.Native.Nat.{ℕ, zero, suc, ◌+◌, ◌^◌, ◌≤◌, ◌<◌}
use mathlib.Core.Path.{◌≡◌, refl, ap, ◌∙◌}
use mathlib.Core.List.{List, [], ◌∷◌, ◌++◌, append_assoc, append-nil}
use mathlib.Core.Bool.{true, false}
use native.Mathlib.Omega.{arith}
use lib.ListN.{length, drop, length-append, length-drop}
use borrow.Author.Tests.{lt-leb}
use Rattle.rules.specs.Listing.{line_end, law_word, samples_word}
use Rattle.store_rows.specs.declared.rows.Row.{Row}
use Rattle.store_rows.specs.Limits.{largest_block}
use Rattle.store_greeting.specs.Marks.{Mark, Note, mark_of}
use Rattle.text_keyvalue.specs.Reading.{whole, none, give, begins}
use Rattle.text_keyvalue.specs.Lines.{line_of, line, ranged}
use Rattle.text_keyvalue.proofs.Exact.{Back, back-give, back-after, back-number, back-line, back-ranged, onward}
use Rattle.store_text.specs.Table.{prompt_word, most_place, row, rows_from, table_in, row_text, table_text}
use Rattle.store_text.specs.Noted.{Listed, mark_word, comma, mark_line, mark_lines_from, mark_lines}
use Rattle.store_text.specs.Noted.{listed, listed_from, listed_at, listed_in, mark_text, marks_text, note_text, listed_text}
use Rattle.store_text.proofs.Exact.{Sayable, Each, row_back, row-some}
use Rattle.store_text.proofs.Noting.{noted-ending}

-- the numbers that R-8's lines can say; 20 digits are written
pub record SayableMark (m : Mark) : Type 0 where
  pub octets : m.octets < 10 ^ 20
  pub samples : m.samples < 10 ^ 20

pub record SayableAll (far : ℕ) (x : Listed) : Type 0 where
  pub row : Sayable far x.row
  pub law : x.note.law ≤ 1
  pub samples : x.note.samples < 10 ^ 20
  pub marks : Each SayableMark x.note.marks

mark-back : (o s : ℕ) → o < 10 ^ 20 → s < 10 ^ 20 → Back mark_line (mark_text (mark_of o s)) (mark_of o s)
unfolding mark_line mark_text
mark-back o s a b =
    back-after mark_word _ (back-number _ o 44 a refl
    (back-after comma _ (back-number _ s 10 b refl (back-after line_end (give (mark_of o s)) (back-give (mark_of o s))))))

-- a mark's line begins so, and no other does
mark-begins : (m : Mark) (rest : List ℕ) → begins mark_word (mark_text m ++ rest) ≡ true
unfolding begins mark_text
mark-begins m rest = refl

pub others-begin : (xs : List Listed) → begins mark_word (listed_text xs) ≡ false
unfolding begins listed_text row_text line_of
others-begin [] = refl
others-begin (x ∷ xs) = refl

mark-some : (m : Mark) → 1 ≤ length (mark_text m)
unfolding mark_text
mark-some m = omega arith

marks-some : (ms : List Mark) → length ms ≤ length (marks_text ms)
unfolding marks_text
marks-some [] = omega arith
marks-some (m ∷ ms) = omega (arith, marks-some ms, mark-some m, length-append (mark_text m) (marks_text ms))

-- marks up to a line of another key
marks-from : (more : ℕ) (done ms : List Mark) (text : List ℕ) (i : ℕ) (rest : List ℕ) → Each SayableMark ms → length ms ≤ more
    → drop i text ≡ marks_text ms ++ rest → begins mark_word rest ≡ false
    → mark_lines_from more done text i ≡ whole (done ++ ms) (i + length (marks_text ms))
unfolding mark_lines_from marks_text
marks-from zero done [] text i rest h l e f = let z : i + 0 ≡ i = omega arith in rw (z, append-nil)
marks-from (suc more) done [] text i rest h l e f = let z : i + 0 ≡ i = omega arith in rw (e, f, z, append-nil)
marks-from zero done (m ∷ ms) text i rest h l e f = absurd (omega arith)
marks-from (suc more) done (m ∷ ms) text i rest h l e f =
    let e' : drop i text ≡ mark_text m ++ (marks_text ms ++ rest) = e ∙ append_assoc (mark_text m) (marks_text ms) rest in
    let n : i + length (mark_text m ++ marks_text ms) ≡ i + length (mark_text m) + length (marks_text ms) =
    rw (length-append (mark_text m) (marks_text ms)) (omega arith) in
    let b : begins mark_word (drop i text) ≡ true = ap (begins mark_word) e' ∙ mark-begins m (marks_text ms ++ rest) in
    let r = (mark-back m.octets m.samples h.0.octets h.0.samples).reads text i (marks_text ms ++ rest) e' in
    rw (b, r, n)
    (marks-from more (done ++ (m ∷ [])) ms text (i + length (mark_text m)) rest h.1 (omega arith)
    (onward text (mark_text m) (marks_text ms ++ rest) i e') f
    ∙ ap (λ (l : List Mark). whole l (i + length (mark_text m) + length (marks_text ms))) (append_assoc done (m ∷ []) ms))

marks-back : (ms : List Mark) (text : List ℕ) (i : ℕ) (rest : List ℕ) → Each SayableMark ms → drop i text ≡ marks_text ms ++ rest
    → begins mark_word rest ≡ false → mark_lines text i ≡ whole ms (i + length (marks_text ms))
unfolding mark_lines
marks-back ms text i rest h e f =
    let l = ap length e ∙ length-append (marks_text ms) rest in
    marks-from (suc (length text)) [] ms text i rest h (omega (arith, l, length-drop i text, marks-some ms)) e f

-- a greeting's lines, up to those of another
module _ (far : ℕ) (l : far ≤ largest_block) (x : Listed) (h : SayableAll far x) (text : List ℕ) (i : ℕ) (rest : List ℕ)
    (e : drop i text ≡ row_text x.row ++ (note_text x.note ++ rest)) (f : begins mark_word rest ≡ false) where
  abbrev n : Note
  n = x.note

  abbrev i₁ : ℕ
  i₁ = i + length (row_text x.row)

  abbrev i₂ : ℕ
  i₂ = i₁ + length (line_of law_word n.law)

  abbrev i₃ : ℕ
  i₃ = i₂ + length (line_of samples_word n.samples)

  after-row : drop i₁ text ≡ line_of law_word n.law ++ (line_of samples_word n.samples ++ (marks_text n.marks ++ rest))
  unfolding note_text
  after-row =
      onward text (row_text x.row) (note_text n ++ rest) i e
      ∙ append_assoc (line_of law_word n.law) (line_of samples_word n.samples ++ marks_text n.marks) rest
      ∙ ap (λ (l : List ℕ). line_of law_word n.law ++ l) (append_assoc (line_of samples_word n.samples) (marks_text n.marks) rest)

  after-law : drop i₂ text ≡ line_of samples_word n.samples ++ (marks_text n.marks ++ rest)
  after-law = onward text (line_of law_word n.law) (line_of samples_word n.samples ++ (marks_text n.marks ++ rest)) i₁ after-row

  after-samples : drop i₃ text ≡ marks_text n.marks ++ rest
  after-samples = onward text (line_of samples_word n.samples) (marks_text n.marks ++ rest) i₂ after-law

  end : i₃ + length (marks_text n.marks) ≡ i + length (row_text x.row) + length (note_text n)
  unfolding note_text
  end =
      let a = length-append (line_of law_word n.law) (line_of samples_word n.samples ++ marks_text n.marks) in
      let b = length-append (line_of samples_word n.samples) (marks_text n.marks) in
      omega arith

  listed_back : listed far text i ≡ whole x (i + length (row_text x.row) + length (note_text n))
  unfolding listed
  listed_back =
      let a = (row_back far l x.row h.row).reads text i (note_text n ++ rest) e in
      let b = (back-ranged law_word 0 1 n.law (omega (arith, h.law)) (omega arith) h.law).reads text i₁ _ after-row in
      let c = (back-line samples_word n.samples h.samples).reads text i₂ _ after-law in
      let d = marks-back n.marks text i₃ rest h.marks after-samples f in
      rw (a, b, c, d) (ap (whole x) end)

listed-from : (far : ℕ) → far ≤ largest_block → (more : ℕ) (done xs : List Listed) (text : List ℕ) (i : ℕ) → Each (SayableAll far) xs
    → length xs ≤ more → drop i text ≡ listed_text xs → listed_from far more done text i ≡ whole (done ++ xs) (i + length (listed_text xs))
unfolding listed_text listed_from
listed-from far r more done [] text i h l e =
    let n : length text ≤ i = omega (arith, length-drop i text, ap length e) in
    let z : i + 0 ≡ i = omega arith in
    rw (z, append-nil) (noted-ending far more done text i n)
listed-from far r zero done (x ∷ xs) text i h l e = absurd (omega arith)
listed-from far r (suc more) done (x ∷ xs) text i h l e =
    let w = row_text x.row in
    let v = note_text x.note in
    let n : i < length text = omega (arith, length-drop i text, ap length e, row-some x.row (v ++ listed_text xs)) in
    let a = length-append w (v ++ listed_text xs) in
    let b = length-append v (listed_text xs) in
    let m : i + length (w ++ (v ++ listed_text xs)) ≡ i + length w + length v + length (listed_text xs) = omega arith in
    let j = i + length w + length v in
    let o = onward text v (listed_text xs) (i + length w) (onward text w (v ++ listed_text xs) i e) in
    rw (lt-leb (length text) i n, listed_back far r x h.0 text i (listed_text xs) e (others-begin xs), m)
    (listed-from far r more (done ++ (x ∷ [])) xs text j h.1 (omega arith) o
    ∙ ap (λ (l : List Listed). whole l (j + length (listed_text xs))) (append_assoc done (x ∷ []) xs))

-- What is written is read, from any place on.
pub listed-back-at : (far : ℕ) → far ≤ largest_block → (xs : List Listed) (text : List ℕ) (i : ℕ) → Each (SayableAll far) xs → length xs ≤ 32
    → drop i text ≡ listed_text xs → listed_at far i text ≡ whole xs (i + length (listed_text xs))
listed-back-at far r xs text i h l e = listed-from far r 32 [] xs text i h l e

pub noted_back : (xs : List Listed) → Each (SayableAll most_place) xs → length xs ≤ 32
    → listed_in (listed_text xs) ≡ whole xs (length (listed_text xs))
noted_back xs h l = listed-back-at most_place (omega arith) xs (listed_text xs) 0 h l refl ∙ ap (whole xs) (omega arith)

-- after a row stands a line of another key
pub row-not-here : (far : ℕ) (text : List ℕ) (i : ℕ) → begins prompt_word (drop i text) ≡ false → row far text i ≡ none
unfolding row ranged line
row-not-here far text i e = rw e

law-not-here : (text : List ℕ) (i : ℕ) → begins law_word (drop i text) ≡ false → ranged law_word 0 1 text i ≡ none
unfolding ranged line
law-not-here text i e = rw e

note-begins : (n : Note) (rest : List ℕ) → begins prompt_word (note_text n ++ rest) ≡ false
unfolding begins note_text line_of
note-begins n rest = refl

note-some : (n : Note) (rest : List ℕ) → 1 ≤ length (note_text n ++ rest)
unfolding note_text line_of
note-some n rest = omega arith

rows-begin : (rows : List Row) → begins law_word (table_text rows) ≡ false
unfolding begins table_text row_text line_of
rows-begin [] = refl
rows-begin (r ∷ rows) = refl

-- R-8's lines with a greeting are none of R-6's.
pub early-refuses : (x : Listed) (xs : List Listed) → Sayable most_place x.row → table_in (listed_text (x ∷ xs)) ≡ none
unfolding listed_text rows_from
early-refuses x xs h =
    let w = row_text x.row in
    let rest = note_text x.note ++ listed_text xs in
    let a = (row_back most_place (omega arith) x.row h).reads (w ++ rest) 0 rest refl in
    let l = length-append w rest in
    let v : length w < length (w ++ rest) = omega (arith, note-some x.note (listed_text xs)) in
    let d = onward (w ++ rest) w rest 0 refl in
    let z : 0 + length w ≡ length w = omega arith in
    let b : row most_place (w ++ rest) (0 + length w) ≡ none =
    row-not-here most_place (w ++ rest) (0 + length w) (ap (begins prompt_word) d ∙ note-begins x.note (listed_text xs)) in
    rw (lt-leb (length (w ++ rest)) 0 (omega arith), a, lt-leb (length (w ++ rest)) (0 + length w) (omega arith), b)

-- And the other way round, from any place on.
pub rows-refused : (far : ℕ) → far ≤ largest_block → (r : Row) (rows : List Row) → Sayable far r → (text : List ℕ) (i : ℕ)
    → drop i text ≡ table_text (r ∷ rows) → listed_at far i text ≡ none
unfolding table_text listed_from listed
rows-refused far s r rows h text i e =
    let w = row_text r in
    let rest = table_text rows in
    let a = (row_back far s r h).reads text i rest e in
    let d = onward text w rest i e in
    let b : ranged law_word 0 1 text (i + length w) ≡ none = law-not-here text (i + length w) (ap (begins law_word) d ∙ rows-begin rows) in
    rw (lt-leb (length text) i (omega (arith, ap length e, length-drop i text, row-some r rest)), a, b)

pub noted-refuses : (r : Row) (rows : List Row) → Sayable most_place r → listed_in (table_text (r ∷ rows)) ≡ none
noted-refuses r rows h = rows-refused most_place (omega arith) r rows h (table_text (r ∷ rows)) 0 refl
