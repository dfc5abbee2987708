-- R-8: a greeting's law can't be found out by a walk. Both laws' walks accept the same greetings, and give the same samples and marks:
-- `laws-alike`.
use Prim.Native.Nat.{ℕ, ◌+◌}
use mathlib.Core.Path.{◌≡◌, refl, ap, ap₂, ◌∙◌}
use mathlib.Core.List.{List, [], ◌∷◌}
use mathlib.Core.Bool.{true, cond, not}
use lib.ListN.{length}
use lib.Dec.{ltb}
use Rattle.rules.specs.Refusals.{Ending}
use Rattle.rules.specs.Walk.{Delivered}
use Rattle.promises.proofs.Laws.{AllAlike, walks-alike, samples-alike}
use Rattle.store_greeting.specs.Bad.{is_done, store_set, never_short, walk_of, is_bad}
use Rattle.store_greeting.specs.Marks.{Mark, is_marked, mark_of, marks_from, note_of}

marks-alike : (i before : ℕ) (fs gs : List Delivered) → AllAlike fs gs → marks_from i before fs ≡ marks_from i before gs
unfolding AllAlike marks_from
marks-alike i before [] [] h = refl
marks-alike i before [] (g ∷ gs) h = absurd h
marks-alike i before (f ∷ fs) [] h = absurd h
marks-alike i before (f ∷ fs) (g ∷ gs) h =
    let n = length g.found.samples in
    let rest : marks_from (i + 1) (before + length f.found.samples) fs ≡ marks_from (i + 1) (before + n) gs =
    ap (λ (k : ℕ). marks_from (i + 1) (before + k) fs) h.1.long ∙ marks-alike (i + 1) (before + n) fs gs h.2 in
    ap₂ (λ (p : ℕ) (ms : List Mark). cond (is_marked i) (mark_of p before ∷ ms) ms) h.0 rest

pub record LawsAlike (xs : List ℕ) : Type 0 where
  pub bad : is_bad 0 xs ≡ is_bad 1 xs
  pub samples : (note_of 0 xs).samples ≡ (note_of 1 xs).samples
  pub marks : (note_of 0 xs).marks ≡ (note_of 1 xs).marks

pub laws-alike : (xs : List ℕ) → LawsAlike xs
unfolding is_bad
laws-alike xs =
    let w = walks-alike xs store_set (never_short (length xs)) in
    record {
      bad = ap (λ (e : Ending). cond (ltb (length xs) 1) true (not (is_done e))) w.end;
      samples = samples-alike (walk_of 0 xs).frames (walk_of 1 xs).frames w.frames;
      marks = marks-alike 0 0 (walk_of 0 xs).frames (walk_of 1 xs).frames w.frames;
    }
