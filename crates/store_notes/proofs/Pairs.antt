-- Greetings and their second list, one by one: put together and taken apart (`matched-join`, `matched-apart`), one put in, one taken out.
-- A table that holds such greetings is one that calls leave: `sane-stored`.
use Prim.Native.Nat.{ℕ, ◌≤◌}
use mathlib.Core.Path.{◌≡◌, refl, sym, ap, ◌∙◌}
use mathlib.Core.List.{List, [], ◌∷◌, ◌++◌}
use mathlib.Core.Bool.{true, false}
use native.Mathlib.Omega.{arith}
use lib.ListN.{length, take, drop, length-take, take-append-drop}
use lib.Dec.{ltb}
use borrow.Author.Tests.{le-ltb, ltb-false, eq-eqb}
use Rattle.rules.specs.Tools.{most_law}
use Rattle.store_rows.specs.declared.rows.Row.{Row}
use Rattle.store_rows.specs.Limits.{largest_block}
use Rattle.store_rows.specs.Rows.{held}
use Rattle.store_rows.specs.Changed.{insert_at}
use Rattle.store_rows.specs.Sane.{rising, numbered, sane_of}
use Rattle.store_rows.proofs.Lists.{passed, both}
use Rattle.store_greeting.specs.Marks.{Note, most_marks}
use Rattle.store_notes.specs.Cells.{head_in, head_row, heads, stored}
use Rattle.store_notes.specs.Notes.{insert_note}
use Rattle.store_notes.specs.Sane.{store_cells, matched, sane_store}
use Rattle.store_notes.proofs.Held.{rows-stored, count-stored, heads-stored, second-count, length-stored}
use Rattle.store_notes.proofs.Noting.{length-heads, heads-append, heads-cons}
use Rattle.store_notes.proofs.Matched.{marks-fit}

-- one greeting and its second row
pub record Fits (r h : Row) : Type 0 where
  pub law : (head_in h).law ≤ most_law
  pub marks : (head_in h).marks ≤ most_marks r.octets

pub matched-head : (r h : Row) (rows hs : List Row) → matched (r ∷ rows) (h ∷ hs) ≡ true → Fits r h × (matched rows hs ≡ true)
unfolding matched
matched-head r h rows hs e =
    let a = passed (ltb most_law h.number) _ e in
    let b = passed (ltb (most_marks r.octets) h.octets) _ a.1 in
    (record { law = ltb-false _ _ a.0; marks = ltb-false _ _ b.0 }, b.1)

pub matched-cons : (r h : Row) (rows hs : List Row) → Fits r h → matched rows hs ≡ true → matched (r ∷ rows) (h ∷ hs) ≡ true
unfolding matched
matched-cons r h rows hs f e = rw (le-ltb most_law h.number f.law, le-ltb (most_marks r.octets) h.octets f.marks) e

pub matched-nil : (hs : List Row) → matched [] hs ≡ true
unfolding matched
matched-nil hs = refl

none_left : {A : Type 0} (r : Row) (rows : List Row) → matched (r ∷ rows) [] ≡ true → A
unfolding matched
none_left r rows e = let z : ◌≡◌ {A = ℕ} 0 1 = cc in absurd (omega arith)

pub matched-join : (a p c q : List Row) → length a ≡ length p → matched a p ≡ true → matched c q ≡ true → matched (a ++ c) (p ++ q) ≡ true
matched-join [] [] c q l e f = f
matched-join [] (h ∷ p) c q l e f = absurd (omega arith)
matched-join (r ∷ a) [] c q l e f = absurd (omega arith)
matched-join (r ∷ a) (h ∷ p) c q l e f =
    let m = matched-head r h a p e in
    matched-cons r h (a ++ c) (p ++ q) m.0 (matched-join a p c q (omega arith) m.1 f)

pub matched-apart : (a p c q : List Row) → length a ≡ length p → matched (a ++ c) (p ++ q) ≡ true
    → (matched a p ≡ true) × (matched c q ≡ true)
matched-apart [] [] c q l e = (matched-nil [], e)
matched-apart [] (h ∷ p) c q l e = absurd (omega arith)
matched-apart (r ∷ a) [] c q l e = absurd (omega arith)
matched-apart (r ∷ a) (h ∷ p) c q l e =
    let m = matched-head r h (a ++ c) (p ++ q) e in
    let i = matched-apart a p c q (omega arith) m.1 in
    (matched-cons r h a p m.0 i.0, i.1)

-- a greeting put in with its note
module _ (i : ℕ) (rows : List Row) (notes : List Note) (same : length notes ≡ length rows) (e : matched rows (heads notes) ≡ true) where
  heads-taken : length (take i rows) ≡ length (heads (take i notes))
  heads-taken = omega (arith, length-take i rows, length-take i notes, length-heads (take i notes))

  heads-split : heads (take i notes) ++ heads (drop i notes) ≡ heads notes
  heads-split = sym (heads-append (take i notes) (drop i notes)) ∙ ap heads (take-append-drop i notes)

  split : (matched (take i rows) (heads (take i notes)) ≡ true) × (matched (drop i rows) (heads (drop i notes)) ≡ true)
  split =
      matched-apart (take i rows) (heads (take i notes)) (drop i rows) (heads (drop i notes)) heads-taken
      (rw (take-append-drop i rows, heads-split) e)

  pub matched-inserted : (r : Row) (n : Note) → Fits r (head_row n) → matched (insert_at i r rows) (heads (insert_note i n notes)) ≡ true
  matched-inserted r n f =
      rw (heads-append (take i notes) (n ∷ drop i notes), heads-cons n (drop i notes))
      (matched-join (take i rows) (heads (take i notes)) (r ∷ drop i rows) (head_row n ∷ heads (drop i notes)) heads-taken split.0
      (matched-cons r (head_row n) (drop i rows) (heads (drop i notes)) f split.1))

-- a greeting taken out with its note
module _ (before : List Row) (r : Row) (behind : List Row) (a : List Note) (n : Note) (c : List Note)
    (same : length a ≡ length before) where
  pub matched-removed : matched (before ++ (r ∷ behind)) (heads (a ++ (n ∷ c))) ≡ true → matched (before ++ behind) (heads (a ++ c)) ≡ true
  matched-removed e =
      let l : length before ≡ length (heads a) = sym same ∙ sym (length-heads a) in
      let q = matched-apart before (heads a) (r ∷ behind) (head_row n ∷ heads c) l
      (rw (heads-append a (n ∷ c), heads-cons n c) at e) in
      rw (heads-append a c) (matched-join before (heads a) behind (heads c) l q.0 (matched-head r (head_row n) behind (heads c) q.1).1)

-- R-6's part of the judging
pub sane-old : (size : ℕ) (t : List ℕ) → sane_store size t ≡ true → sane_of size t ≡ true
unfolding sane_store
sane-old size t e = (both (sane_of size t) _ (passed (ltb (length t) (store_cells size)) _ e).1).0

-- what is stored so is a table that calls leave
module _ (size : ℕ) (rows : List Row) (notes : List Note) (t : List ℕ) (c : store_cells size ≤ length t) (few : length rows ≤ 32)
    (same : length notes ≡ length rows) where
  pub sane-stored : size ≤ largest_block → held rows ≤ size → rising 1 0 size rows ≡ true → numbered rows ≡ true
      → matched rows (heads notes) ≡ true → sane_store size (stored rows notes t) ≡ true
  unfolding sane_store sane_of
  sane-stored s h r n m =
      let g : length notes ≤ 32 = omega arith in
      let w : 194 ≤ length t = omega arith in
      let f = marks-fit rows (heads notes) (length-heads notes ∙ same) m in
      let k : length (stored rows notes t) ≡ length t = length-stored rows notes t few g w (omega arith) in
      let l₁ : ltb (length (stored rows notes t)) (store_cells size) ≡ false = le-ltb (length (stored rows notes t))
      (store_cells size) (omega arith) in
      let l₂ : ltb (length (stored rows notes t)) 97 ≡ false = le-ltb (length (stored rows notes t)) 97 (omega arith) in
      rw (
        l₁,
        l₂,
        rows-stored rows notes t few g w,
        count-stored rows notes t few g w,
        heads-stored rows notes t few g w,
        second-count rows notes t few g w,
        le-ltb 32 (length rows) few,
        eq-eqb (length notes) (length rows) same,
        r,
        n,
      ) m
