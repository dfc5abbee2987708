-- A greeting that is not absent, and its note (`stands`): what the store reads under its number, and what the walk gives of it.
use Prim.Native.Nat.{ℕ, suc, ◌+◌}
use mathlib.Core.Path.{◌≡◌, ap, subst, ◌∙◌}
use mathlib.Core.List.{List, ◌∷◌, ◌++◌}
use mathlib.Core.Bool.{false}
use native.Mathlib.Omega.{arith}
use lib.ListN.{length, take, drop, length-append, length-take}
use lib.Seq.{split_at}
use Rattle.store_rows.specs.declared.rows.Row.{Row}
use Rattle.store_rows.specs.Limits.{size_of}
use Rattle.store_rows.specs.Rows.{greeting, Kept, contents}
use Rattle.store_rows.specs.Finding.{absent, find_from}
use Rattle.store_rows.specs.Changed.{nth}
use Rattle.store_greeting.specs.Bad.{is_bad}
use Rattle.store_greeting.specs.Marks.{Note, note_of}
use Rattle.store_notes.specs.Notes.{no_note, nth_note}
use Rattle.store_promises.specs.Told.{Store, rows_in, notes_for}
use Rattle.store_promises.specs.Kept.{look_up, noted, note_under, Along, IsGood}
use Rattle.store_promises.proofs.Numbers.{Fresh, Distinct, FoundAt, find-split, distinct-behind}
use Rattle.store_promises.proofs.Along.{length-contents, along-apart, IsTrue, true-along, under-put}
use Rattle.store_promises.proofs.Contents.{kept, contents-append, contents-cons}
use Rattle.store_promises.proofs.Looked.{fresh-missing, look-put}
use Rattle.store_promises.proofs.Granted.{found-nth, sane-distinct, sane-count}
use Rattle.store_promises.proofs.Promises.{Keeps}
use Rattle.store_promises.specs.Jumped.{There}

-- the first pair of two lists
first-pair : (p : Kept → Note → Type 0) (k : Kept) (n : Note) (ks : List Kept) (ns : List Note) → Along p (k ∷ ks) (n ∷ ns) → p k n
unfolding Along
first-pair p k n ks ns h = h.0

-- the greeting of a number, where it stands in the table
pub record Stands (s : Store) (x : ℕ) : Type 0 where
  pub there : There s x
  pub greets : greeting s.block (nth (find_from x 0 (rows_in s)) (rows_in s)) ≡ there.octets
  pub note : nth_note (find_from x 0 (rows_in s)) (notes_for s) ≡ note_of there.law there.octets

module _ {size : ℕ} {s : Store} (k : Keeps size s) (x : ℕ) (e : absent x (rows_in s) ≡ false) where
  abbrev rows : List Row
  rows = rows_in s

  abbrev notes : List Note
  notes = notes_for s

  abbrev found : FoundAt x 0 rows
  found = find-split x 0 rows e

  abbrev front : List Row
  front = found.before

  abbrev row : Row
  row = found.row

  abbrev back : List Row
  back = found.behind

  abbrev octets : List ℕ
  octets = greeting s.block row

  abbrev i : ℕ
  i = length front

  place : find_from x 0 rows ≡ i
  place = found.place ∙ omega arith

  same : length notes ≡ length rows
  same = sane-count s.block s.table k.sane

  inside : i + 1 + length back ≡ length rows
  inside = omega (arith, ap length found.is, length-append front (row ∷ back))

  abbrev mine : Note
  mine = nth_note i notes

  notes-are : notes ≡ take i notes ++ (mine ∷ drop (i + 1) notes)
  notes-are =
      let one : suc i ≡ i + 1 = omega arith in
      split_at notes i no_note (omega (arith, same, inside)) ∙ ap (λ (j : ℕ). take i notes ++ (mine ∷ drop j notes)) one

  contents-are : contents s.block rows ≡ contents s.block front ++ (kept row.number octets ∷ contents s.block back)
  contents-are =
      ap (contents s.block) found.is ∙ contents-append s.block front (row ∷ back)
      ∙ ap (λ (l : List Kept). contents s.block front ++ l) (contents-cons s.block row back)

  fronts : length (contents s.block front) ≡ length (take i notes)
  fronts = omega (arith, length-contents s.block front, length-take i notes, same, inside)

  pair : (p : Kept → Note → Type 0) → Along p (contents s.block rows) notes → p (kept row.number octets) mine
  pair p h =
      let a = subst (λ (ks : List Kept). Along p ks notes) contents-are h in
      let b = subst (Along p (contents s.block front ++ (kept row.number octets ∷ contents s.block back))) notes-are a in
      first-pair p (kept row.number octets) mine (contents s.block back) (drop (i + 1) notes)
      (along-apart p (contents s.block front) (take i notes) (kept row.number octets ∷ contents s.block back)
      (mine ∷ drop (i + 1) notes)
      fronts b).1

  true-note : mine ≡ note_of mine.law octets
  unfolding kept
  true-note = pair IsTrue (true-along (contents s.block rows) notes k.marks)

  good-note : is_bad mine.law octets ≡ false
  unfolding kept
  good-note = pair IsGood k.good

  others : Fresh x front
  others =
      let d = sane-distinct (size_of s.block) s.table k.sane in
      let f = (distinct-behind front row back (subst Distinct found.is d)).0 in
      subst (λ (n : ℕ). Fresh n front) found.number f

  pub stands : Stands s x
  stands =
      let c = contents-are ∙ ap (λ (n : ℕ). contents s.block front ++ (kept n octets ∷ contents s.block back)) found.number in
      let u = under-put x front row back (take i notes) mine (drop (i + 1) notes)
      (omega (arith, length-contents s.block front, fronts)) others
      found.number in
      record {
        there = record {
          law = mine.law;
          octets = octets;
          reads =
              ap (look_up x) c
              ∙ look-put x octets (contents s.block front) (contents s.block back) (fresh-missing x s.block front others);
          knows =
              ap (λ (l : List Row). note_under x l notes) found.is
              ∙ ap (note_under x (front ++ (row ∷ back))) notes-are ∙ u ∙ ap noted true-note;
          good = good-note;
        };
        greets = ap (greeting s.block) (found-nth found);
        note = ap (λ (j : ℕ). nth_note j notes) place ∙ true-note;
      }
