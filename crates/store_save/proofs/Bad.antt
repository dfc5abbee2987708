-- Greetings in cells judged one by one, in the code's steps; and that they are the greetings of the text (`bad-celled`, `notes-celled`);
-- notes that are compared (`note-same`).
use Prim.Native.Nat.{ℕ, zero, suc, ◌+◌, ◌*◌, ◌-◌, ◌≤◌, ◌<◌}
use mathlib.Core.Path.{◌≡◌, refl, sym, ap, ◌∙◌}
use mathlib.Core.List.{List, [], ◌∷◌, ◌++◌}
use mathlib.Core.Bool.{Bool, true, false, cond, ◌&&◌}
use native.Mathlib.Omega.{arith}
use lib.ListN.{length, get_or, take, drop, replicate}
use lib.Seq.{drop-drop, get_or-drop}
use lib.Dec.{eqb}
use borrow.Author.Tests.{eqb-true, eq-eqb}
use Rattle.rules.proofs.Tests.{and_left, and_right}
use Rattle.store_rows.specs.declared.rows.Row.{Row}
use Rattle.store_rows.specs.Rows.{greeting}
use Rattle.store_rows.specs.Cells.{row_at, rows_at}
use Rattle.store_rows.specs.Sane.{rising}
use Rattle.store_rows.proofs.Lists.{both}
use Rattle.store_rows.proofs.Left.{left, left-none, left_step}
use Rattle.store_rows.proofs.Rising.{rising-next}
use Rattle.store_greeting.specs.Bad.{is_bad}
use Rattle.store_greeting.specs.Marks.{Mark, Note, mark_of, note_of}
use Rattle.store_text.specs.Noted.{Listed, rows_listed, notes_listed}
use Rattle.store_text.specs.Fills.{laws_listed}
use Rattle.store_save.specs.Saved.{any_bad, all_true, same_marks, same_note, early}
use Rattle.store_save.specs.Steps.{bad_by, notes_by}

-- a greeting of rows that rise is inside
pub row_inside : (t : List ℕ) (size n i : ℕ) {r : Row} → r ≡ row_at t (1 + 3 * i) → i < n → rising 0 0 size (rows_at t n 1) ≡ true
    → r.start + r.octets ≤ size
row_inside t size n i e h g = rw e (rising-next t 0 size 0 n 1 i h g).inside

-- the part of the block that the code lends
pub part_same : (b : List ℕ) (r : Row) → take (r.start + r.octets - r.start) (drop r.start b) ≡ greeting b r
part_same b r =
    let z : r.start + r.octets - r.start ≡ r.octets = omega arith in
    ap (λ (n : ℕ). take n (drop r.start b)) z

pub law-at : (laws : List ℕ) (i : ℕ) → get_or (drop i laws) 0 0 ≡ get_or laws i 0
law-at laws i = let z : i + 0 ≡ i = omega arith in get_or-drop i laws 0 0 ∙ ap (λ (k : ℕ). get_or laws k 0) z

module _ (b t laws : List ℕ) (n i : ℕ) where
  pub bad-none : n ≤ i → false ≡ bad_by b (left t n i) (drop i laws)
  unfolding bad_by
  bad-none h = rw (left-none t n i h)

  module _ {r : Row} {x : Bool} (e : r ≡ row_at t (1 + 3 * i)) (h : i < n)
      (f : x ≡ is_bad (get_or laws i 0) (take (r.start + r.octets - r.start) (drop r.start b))) where
    is-bad : is_bad (get_or (drop i laws) 0 0) (greeting b r) ≡ x
    is-bad = ap (λ (law : ℕ). is_bad law (greeting b r)) (law-at laws i) ∙ sym (f ∙ ap (is_bad (get_or laws i 0)) (part_same b r))

    pub bad-here : x ≡ true → true ≡ bad_by b (left t n i) (drop i laws)
    unfolding bad_by
    bad-here g = rw (left_step t n i e h, is-bad, g)

    pub bad-on : x ≡ false → bad_by b (left t n i) (drop i laws) ≡ bad_by b (left t n (i + 1)) (drop (i + 1) laws)
    unfolding bad_by
    bad-on g = rw (left_step t n i e h, is-bad, g, drop-drop 1 i laws)

-- the cells say what the text says
pub bad-celled : (b : List ℕ) (xs : List Listed) (rest : List ℕ) → any_bad b xs ≡ bad_by b (rows_listed xs) (laws_listed xs ++ rest)
unfolding any_bad bad_by rows_listed laws_listed
bad-celled b [] rest = refl
bad-celled b (x ∷ xs) rest = ap (λ (t : Bool). cond (is_bad x.note.law (greeting b x.row)) true t) (bad-celled b xs rest)

-- "samples and marks": compared, they are the same
marks-same : (ms qs : List Mark) → same_marks ms qs ≡ true → ms ≡ qs
unfolding same_marks
marks-same [] [] e = refl
marks-same [] (q ∷ qs) e = let z : ◌≡◌ {A = ℕ} 0 1 = cc in absurd (omega arith)
marks-same (m ∷ ms) [] e = let z : ◌≡◌ {A = ℕ} 0 1 = cc in absurd (omega arith)
marks-same (m ∷ ms) (q ∷ qs) e =
    let o = both (eqb m.octets q.octets && eqb m.samples q.samples) (same_marks ms qs) e in
    let a = eqb-true m.octets q.octets (and_left (eqb m.octets q.octets) (eqb m.samples q.samples) o.0) in
    let b = eqb-true m.samples q.samples (and_right (eqb m.octets q.octets) (eqb m.samples q.samples) o.0) in
    mark-cons a b (marks-same ms qs o.1)
  where
    mark-cons : m.octets ≡ q.octets → m.samples ≡ q.samples → ms ≡ qs → ◌≡◌ {A = List Mark} (m ∷ ms) (q ∷ qs)
    mark-cons a b c =
        ap (λ (k : ℕ). mark_of k m.samples ∷ ms) a ∙ ap (λ (k : ℕ). mark_of q.octets k ∷ ms) b ∙ ap (λ (l : List Mark). q ∷ l) c

pub note-same : (n g : Note) → n.law ≡ g.law → same_note n g ≡ true → n ≡ g
note-same n g l e =
    let a = eqb-true n.samples g.samples (and_left (eqb n.samples g.samples) (same_marks n.marks g.marks) e) in
    let b = marks-same n.marks g.marks (and_right (eqb n.samples g.samples) (same_marks n.marks g.marks) e) in
    ap (λ (k : ℕ). record { law = k; samples = n.samples; marks = n.marks }) l
    ∙ ap (λ (k : ℕ). record { law = g.law; samples = k; marks = n.marks }) a
    ∙ ap (λ (ms : List Mark). record { law = g.law; samples = g.samples; marks = ms }) b

-- accepted notes are what the walks give
pub notes-celled : (b : List ℕ) (xs : List Listed) (rest : List ℕ) → all_true b xs ≡ true
    → notes_listed xs ≡ notes_by b (rows_listed xs) (laws_listed xs ++ rest)
unfolding all_true notes_listed notes_by rows_listed laws_listed
notes-celled b [] rest e = refl
notes-celled b (x ∷ xs) rest e =
    let g = note_of x.note.law (greeting b x.row) in
    let o = both (same_note x.note g) (all_true b xs) e in
    ap (λ (n : Note). n ∷ notes_listed xs) (note-same x.note g refl o.0)
    ∙ ap (λ (l : List Note). g ∷ l) (notes-celled b xs rest o.1)

-- R-6's lines: law 1, and what that walk gives
pub rows-early : (b : List ℕ) (rows : List Row) → rows_listed (early b rows) ≡ rows
unfolding rows_listed early
rows-early b [] = refl
rows-early b (r ∷ rows) = ap (λ (l : List Row). r ∷ l) (rows-early b rows)

pub laws-early : (b : List ℕ) (rows : List Row) (k : ℕ) → length rows ≤ k
    → replicate k 1 ≡ laws_listed (early b rows) ++ drop (length (early b rows)) (replicate k 1)
unfolding laws_listed early
laws-early b [] k h = refl
laws-early b (r ∷ rows) zero h = absurd (omega arith)
laws-early b (r ∷ rows) (suc k) h = ap (λ (l : List ℕ). 1 ∷ l) (laws-early b rows k (omega arith))

pub marks-self : (ms : List Mark) → same_marks ms ms ≡ true
unfolding same_marks
marks-self [] = refl
marks-self (m ∷ ms) = rw (eq-eqb m.octets m.octets refl, eq-eqb m.samples m.samples refl) (marks-self ms)

pub true-early : (b : List ℕ) (rows : List Row) → all_true b (early b rows) ≡ true
unfolding all_true early
true-early b [] = refl
true-early b (r ∷ rows) =
    let n = note_of 1 (greeting b r) in
    rw (eq-eqb n.samples n.samples refl, marks-self n.marks) (true-early b rows)
