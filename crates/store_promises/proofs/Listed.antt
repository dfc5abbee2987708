-- Greetings with their notes as lines list them: what "none is bad" and "samples and marks that the walk gives" say of them (`listed-good`,
-- `listed-true`), and back for those that a table holds (`good-listing`, `true-listing`).
use Prim.Native.Nat.{ℕ, suc}
use mathlib.Core.Path.{◌≡◌, refl, ap, subst}
use mathlib.Core.List.{List, [], ◌∷◌}
use mathlib.Core.Bool.{Bool, true, false, cond}
use native.Mathlib.Omega.{arith}
use lib.ListN.{length}
use borrow.Author.Tests.{eq-eqb}
use Rattle.store_rows.specs.declared.rows.Row.{Row}
use Rattle.store_rows.specs.Rows.{greeting, contents}
use Rattle.store_greeting.specs.Bad.{is_bad}
use Rattle.store_greeting.specs.Marks.{Note, note_of}
use Rattle.store_notes.specs.Notes.{True}
use Rattle.store_text.specs.Noted.{Listed, rows_listed, notes_listed, listing}
use Rattle.store_save.specs.Saved.{any_bad, same_note, all_true}
use Rattle.store_promises.specs.Kept.{Along, Good}
use Rattle.store_rows.proofs.Lists.{both}
use Rattle.store_save.proofs.Bad.{note-same, marks-self}

note-self : (n : Note) → same_note n n ≡ true
note-self n = rw (eq-eqb n.samples n.samples refl) (marks-self n.marks)

pub listed-good : (b : List ℕ) (xs : List Listed) → any_bad b xs ≡ false → Good (contents b (rows_listed xs)) (notes_listed xs)
unfolding any_bad rows_listed notes_listed contents Along
listed-good b [] e = tt
listed-good b (x ∷ xs) e = go (is_bad x.note.law (greeting b x.row)) refl e (listed-good b xs)
  where
    go : (t : Bool) → is_bad x.note.law (greeting b x.row) ≡ t → cond t true (any_bad b xs) ≡ false
        → (any_bad b xs ≡ false → Good (contents b (rows_listed xs)) (notes_listed xs))
        → (is_bad x.note.law (greeting b x.row) ≡ false) × Good (contents b (rows_listed xs)) (notes_listed xs)
    go true p e ih = let z : ◌≡◌ {A = ℕ} 0 1 = cc in absurd (omega arith)
    go false p e ih = (p, ih e)

pub listed-true : (b : List ℕ) (xs : List Listed) → all_true b xs ≡ true → True (contents b (rows_listed xs)) (notes_listed xs)
unfolding all_true rows_listed notes_listed contents True
listed-true b [] e = tt
listed-true b (x ∷ xs) e =
    let p = both (same_note x.note (note_of x.note.law (greeting b x.row))) (all_true b xs) e in
    (note-same x.note (note_of x.note.law (greeting b x.row)) refl p.0, listed-true b xs p.1)

-- and back
pub good-listing : (b : List ℕ) (rows : List Row) (notes : List Note) → Good (contents b rows) notes → any_bad b (listing rows notes) ≡ false
unfolding any_bad listing contents Along
good-listing b [] notes h = refl
good-listing b (r ∷ rows) [] h = refl
good-listing b (r ∷ rows) (n ∷ notes) h = rw h.0 (good-listing b rows notes h.1)

pub true-listing : (b : List ℕ) (rows : List Row) (notes : List Note) → True (contents b rows) notes → all_true b (listing rows notes) ≡ true
unfolding all_true listing contents True
true-listing b [] notes h = refl
true-listing b (r ∷ rows) [] h = refl
true-listing b (r ∷ rows) (n ∷ notes) h =
    let g = note_of n.law (greeting b r) in
    let s : same_note n g ≡ true = subst (λ (m : Note). same_note n m ≡ true) h.0 (note-self n) in
    rw s (true-listing b rows notes h.1)

pub notes-listing : (rows : List Row) (notes : List Note) → length notes ≡ length rows → notes_listed (listing rows notes) ≡ notes
unfolding notes_listed listing
notes-listing [] [] l = refl
notes-listing [] (n ∷ notes) l = absurd (omega arith)
notes-listing (r ∷ rows) [] l = absurd (omega arith)
notes-listing (r ∷ rows) (n ∷ notes) l = ap (λ (x : List Note). n ∷ x) (notes-listing rows notes (omega arith))

pub length-listing : (rows : List Row) (notes : List Note) → length notes ≡ length rows → length (listing rows notes) ≡ length rows
unfolding listing
length-listing [] notes l = refl
length-listing (r ∷ rows) [] l = absurd (omega arith)
length-listing (r ∷ rows) (n ∷ notes) l = ap suc (length-listing rows notes (omega arith))

-- listed and listed again
pub listing-listed : (xs : List Listed) → listing (rows_listed xs) (notes_listed xs) ≡ xs
unfolding listing rows_listed notes_listed
listing-listed [] = refl
listing-listed (x ∷ xs) = ap (λ (l : List Listed). x ∷ l) (listing-listed xs)

pub notes-listed : (xs : List Listed) → length (notes_listed xs) ≡ length xs
unfolding notes_listed
notes-listed [] = refl
notes-listed (x ∷ xs) = ap suc (notes-listed xs)
