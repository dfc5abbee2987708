-- The text of a table that calls left has at most 7 + 32 * 66 + 23 * (size / 64 + 32) octets (`text-most`), 379,687 of the largest block
-- (`most-table`: G7110_MAX_TABLE); with that room a save is accepted (`room-enough`).
use Prim.Native.Nat.{ℕ, suc, ◌+◌, ◌*◌, ◌/◌, ◌^◌, ◌≤◌, ◌<◌}
use mathlib.Core.Path.{◌≡◌, refl, sym, subst, ◌∙◌}
use mathlib.Core.List.{List, [], ◌∷◌, ◌++◌}
use mathlib.Core.Bool.{Bool, true, false, cond}
use native.Mathlib.Omega.{arith}
use lib.ListN.{length, get_or, length-append}
use borrow.Author.Tests.{le-ltb}
use Rattle.rules.specs.Listing.{decimal, line_end, law_word, samples_word}
use Rattle.store_rows.specs.declared.rows.Row.{Row}
use Rattle.store_rows.specs.Limits.{largest_block, size_of}
use Rattle.store_rows.specs.Rows.{greeting, held, contents}
use Rattle.store_rows.specs.Sane.{rising}
use Rattle.store_rows.proofs.Cells.{length-rows}
use Rattle.store_rows.proofs.Rising.{rising-head}
use Rattle.store_greeting.specs.Marks.{Mark, Note}
use Rattle.store_greeting.proofs.Bounds.{Small, note-small}
use Rattle.store_greeting.proofs.Count.{note-few}
use Rattle.store_notes.specs.Notes.{True}
use Rattle.text_keyvalue.specs.Lines.{line_of}
use Rattle.text_keyvalue.proofs.Decimals.{decimal-few}
use Rattle.store_text.specs.Table.{prompt_word, start_word, octets_word, row_text}
use Rattle.store_text.specs.Noted.{Listed, comma, rows_listed, listing, marks_text, mark_text, note_text, listed_text}
use Rattle.store_text.specs.Form.{form_line, needs_form, saved_text}
use Rattle.store_text.proofs.Writing.{row-length, mark-length, note-length}
use Rattle.store_save.specs.Saved.{saved, save_of}
use Rattle.store_promises.specs.Told.{Store, rows_in, notes_for}
use Rattle.store_promises.specs.Kept.{Along, Good}
use Rattle.store_promises.specs.Long.{most_text}
use Rattle.store_promises.proofs.Rising.{held-within}
use Rattle.store_promises.proofs.Numbers.{Distinct}
use Rattle.store_promises.proofs.Contents.{length-greeting}
use Rattle.store_promises.proofs.Granted.{sane-rows, sane-distinct}
use Rattle.store_promises.proofs.Loaded.{lawful}
use Rattle.store_promises.proofs.Promises.{Keeps, save-writes}

line-few : (key : List ℕ) (k n : ℕ) → n < 10 ^ suc k → length (line_of key n) ≤ length key + (suc k + 1)
unfolding line_of
line-few key k n h =
    rw (length-append (key ++ decimal n) line_end, length-append key (decimal n)) (omega (arith, decimal-few k n h))

row-few : (r : Row) → r.number < 10 ^ 5 → r.start < 10 ^ 7 → r.octets < 10 ^ 7 → length (row_text r) ≤ 42
row-few r a b c =
    omega (
      arith,
      row-length r,
      line-few prompt_word 4 r.number a,
      line-few start_word 6 r.start b,
      line-few octets_word 6 r.octets c,
    )

marks-few : (o s : ℕ) (ms : List Mark) → o < 10 ^ 7 → s < 10 ^ 9 → Small o s ms → length (marks_text ms) ≤ 23 * length ms
unfolding Small marks_text
marks-few o s [] a b h = omega arith
marks-few o s (m ∷ ms) a b h =
    let x = decimal-few 6 m.octets (omega (arith, h.0)) in
    let y = line-few comma 8 m.samples (omega (arith, h.1)) in
    omega (arith, length-append (mark_text m) (marks_text ms), mark-length m, x, y, marks-few o s ms a b h.2)

note-long : (n : Note) (o s : ℕ) → n.law < 10 ^ 1 → n.samples < 10 ^ 9 → o < 10 ^ 7 → s < 10 ^ 9 → Small o s n.marks
    → length (note_text n) ≤ 24 + 23 * length n.marks
note-long n o s a b c d h =
    omega (
      arith,
      note-length n,
      line-few law_word 0 n.law a,
      line-few samples_word 8 n.samples b,
      marks-few o s n.marks c d h,
    )

-- all marks
unfoldable marks_count : List Note → ℕ
marks_count [] = 0
marks_count (n ∷ notes) = length n.marks + marks_count notes

abbrev FewIn : List Row → List Note → Type 0
FewIn rows notes =
    (length (listed_text (listing rows notes)) ≤ 66 * length rows + 23 * marks_count notes)
    × (64 * marks_count notes ≤ held rows + 64 * length rows)

listed-few : (b : List ℕ) (lo size : ℕ) (rows : List Row) (notes : List Note) → size ≤ largest_block → size ≤ length b
    → rising 1 lo size rows ≡ true → Distinct rows → Good (contents b rows) notes → True (contents b rows) notes → FewIn rows notes
unfolding Distinct contents Along True listing listed_text marks_count held
listed-few b lo size [] [] z f h d g w = (omega arith, omega arith)
listed-few b lo size [] (n ∷ notes) z f h d g w = absurd w
listed-few b lo size (r ∷ rows) [] z f h d g w = absurd w
listed-few b lo size (r ∷ rows) (n ∷ notes) z f h d g w =
    let k = rising-head 1 lo size r rows h in
    let i = k.0.inside in
    let xs = greeting b r in
    let l = length-greeting b r (omega arith) in
    let q = subst (λ (o : Note). (o.samples ≤ 320 * length xs) × Small (length xs) (320 * length xs) o.marks) (sym w.0)
    (note-small n.law xs) in
    let m = subst (λ (o : Note). length o.marks ≤ length xs / 64 + 1) (sym w.0) (note-few n.law xs) in
    let one = row-few r (omega (arith, d.1)) (omega arith) (omega arith) in
    let two = note-long n (length xs) (320 * length xs) (omega (arith, lawful n.law xs g.0)) (omega (arith, q.0)) (omega arith)
    (omega arith) q.1 in
    let rest = listed-few b (r.start + r.octets) size rows notes z f k.1 d.3 g.1 w.1 in
    let p = length-append (row_text r) (note_text n ++ listed_text (listing rows notes)) in
    let v = length-append (note_text n) (listed_text (listing rows notes)) in
    (omega (arith, p, v, one, two, rest.0), omega (arith, m, l, rest.1))

form-seven : (t : Bool) (text : List ℕ) → length (cond t form_line [] ++ text) ≤ 7 + length text
form-seven true text = omega arith
form-seven false text = omega arith

module _ {size : ℕ} {s : Store} (k : Keeps size s) where
  abbrev xs : List Listed
  xs = listing (rows_in s) (notes_for s)

  pub text-most : length (saved_text (size_of s.block) xs) ≤ most_text (size_of s.block)
  text-most =
      let o = sane-rows (size_of s.block) s.table k.sane in
      let d = sane-distinct (size_of s.block) s.table k.sane in
      let f = listed-few s.block 0 (size_of s.block) (rows_in s) (notes_for s) (omega arith) (omega arith) o.rises d
      k.good k.marks in
      let n = length-rows s.table (get_or s.table 0 0) 1 in
      let h = held-within (rows_in s) 0 (size_of s.block) o.rises (omega arith) in
      omega (arith, form-seven (needs_form (size_of s.block) (rows_listed xs)) (listed_text xs), f.0, f.1, n, o.few, h)

  -- with so much room it is saved
  pub room-enough : (room : ℕ) → most_text (size_of s.block) ≤ room
      → save_of s.block s.table room ≡ saved (saved_text (size_of s.block) xs)
  room-enough room h =
      let l = text-most in
      save-writes k room ∙ rw (le-ltb room (length (saved_text (size_of s.block) xs)) (omega arith))

-- a larger block's is not less, and the largest block's
pub most-more : (size more : ℕ) → size ≤ more → most_text size ≤ most_text more
most-more size more h = omega arith

pub most-table : most_text largest_block ≡ 379687
most-table = refl
