-- How many marks there are: one for each 64 frames begun (`marks-count`); so no more than a greeting's octets can have (`note-few`), and up
-- to exactly 64 frames one alone (`one-of-64`).
use Prim.Native.Nat.{ℕ, suc, ◌+◌, ◌*◌, ◌/◌, ◌%◌, ◌≤◌, ◌<◌}
use mathlib.Core.Path.{◌≡◌, refl, sym, ap, ◌∙◌}
use mathlib.Core.List.{List, [], ◌∷◌}
use mathlib.Core.Bool.{Bool, true, false, cond}
use native.Mathlib.Omega.{arith}
use native.Mathlib.Decide.{dec_lt}
use lib.ListN.{length}
use lib.Dec.{eqb}
use borrow.Author.Tests.{eqb-true, eqb-false, le-leb, lt-leb}
use Rattle.rules.specs.Tools.{most_law}
use Rattle.rules.specs.Walk.{Delivered, Walked, longest, walk_all, octets_kept}
use Rattle.rules.proofs.Walk.{walk-told, walk-each}
use Rattle.store_greeting.specs.Bad.{walk_of, store_set}
use Rattle.store_greeting.proofs.Bad.{walk-of}
use Rattle.store_greeting.proofs.Marked.{marks-one}
use Rattle.store_greeting.specs.Marks.{Mark, mark_of, is_marked, marks_from, marks_of, note_of, most_marks}

-- a frame that is marked, or not, and those after it
one_more : (i n : ℕ) (m : Mark) (ms : List Mark) (b : Bool) → eqb (i % 64) 0 ≡ b → length ms ≡ ((i + 1 + 63) % 64 + n) / 64
    → length (cond b (m ∷ ms) ms) ≡ ((i + 63) % 64 + suc n) / 64
one_more i n m ms true e h = let z = eqb-true (i % 64) 0 e in omega arith
one_more i n m ms false e h = let z = eqb-false (i % 64) 0 e in omega arith

marks-from : (i before : ℕ) (fs : List Delivered) → length (marks_from i before fs) ≡ ((i + 63) % 64 + length fs) / 64
unfolding marks_from
marks-from i before [] = omega arith
marks-from i before (f ∷ fs) =
    let more = before + length f.found.samples in
    one_more i (length fs) (mark_of f.place before) (marks_from (i + 1) more fs) (is_marked i) refl (marks-from (i + 1) more fs)

-- "frames 0, 64, 128 and so on": one mark for 64 frames or fewer that there are
pub marks-count : (fs : List Delivered) → length (marks_of fs) ≡ (length fs + 63) / 64
marks-count fs = marks-from 0 0 fs ∙ omega arith

none_before : 0 + octets_kept [] ≡ 0
unfolding octets_kept
none_before = refl

-- a walk that law or length refuses delivers no frame
pub no-law : (law : ℕ) (xs : List ℕ) → most_law < law → (walk_of law xs).frames ≡ []
unfolding walk_all
no-law law xs l = rw (lt-leb law most_law l)

pub too_long : (law : ℕ) (xs : List ℕ) → law ≤ most_law → longest < length xs → (walk_of law xs).frames ≡ []
unfolding walk_all
too_long law xs l h = rw (le-leb law most_law l, lt-leb (length xs) longest h)

-- each frame has an octet or more
frames-few : (law : ℕ) (xs : List ℕ) → length (walk_of law xs).frames ≤ length xs
frames-few law xs = go (dec_lt most_law law) (dec_lt longest (length xs))
  where
    go : Dec (most_law < law) → Dec (longest < length xs) → length (walk_of law xs).frames ≤ length xs
    go (yes l) d = rw (no-law law xs l) (omega arith)
    go (no l) (yes h) = rw (too_long law xs (omega arith) h) (omega arith)
    go (no l) (no h) =
        let t = walk-told xs law store_set (length xs + 1) 0 (320 * length xs) in
        rw (walk-of law xs (omega arith) (omega arith)) (omega (arith, t.some, t.inside))

pub note-few : (law : ℕ) (xs : List ℕ) → length (note_of law xs).marks ≤ most_marks (length xs)
note-few law xs =
    let f = frames-few law xs in
    omega (arith, marks-count (walk_of law xs).frames)

-- a mark stands for a frame that there is: up to exactly 64 frames the one of frame 0 alone
one-mark : (at : ℕ) (fs : List Delivered) → 1 ≤ length fs → length fs ≤ 64
    → ((f : Delivered) (r : List Delivered) → fs ≡ f ∷ r → f.place ≡ at) → marks_of fs ≡ mark_of at 0 ∷ []
one-mark at [] h g p = absurd (omega arith)
one-mark at (f ∷ fs) h g p = marks-one 0 0 at f fs refl (p f fs refl) (omega arith)

first-place : (law : ℕ) (xs : List ℕ) (f : Delivered) (r : List Delivered) → (walk_of law xs).frames ≡ f ∷ r → f.place ≡ 0
first-place law xs f r e = go (dec_lt most_law law) (dec_lt longest (length xs))
  where
    none : {A : Type 0} → (walk_of law xs).frames ≡ [] → A
    none q = let l = ap length (sym e ∙ q) in absurd (omega arith)

    go : Dec (most_law < law) → Dec (longest < length xs) → f.place ≡ 0
    go (yes l) d = none (no-law law xs l)
    go (no l) (yes h) = none (too_long law xs (omega arith) h)
    go (no l) (no h) =
        let w = ap (λ (v : Walked). v.frames) (walk-of law xs (omega arith) (omega arith)) in
        let s = walk-each xs law store_set (length xs + 1) 0 (320 * length xs) [] f r (sym w ∙ e) in
        s.place ∙ none_before

pub one-of-64 : (law : ℕ) (xs : List ℕ) → 1 ≤ length (walk_of law xs).frames → length (walk_of law xs).frames ≤ 64
    → (note_of law xs).marks ≡ mark_of 0 0 ∷ []
one-of-64 law xs h g = one-mark 0 (walk_of law xs).frames h g (first-place law xs)
