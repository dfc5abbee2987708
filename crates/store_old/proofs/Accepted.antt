-- Greetings that the walk with a set accepts: the walk with all tools gives the same of them (`walk-alike`, `note-alike`), so they are not
-- BAD by it, and samples and marks are judged alike (`bad-alike`, `true-alike`, `early-alike`); then a table of them is too (`load-alike`).
use Prim.Native.Nat.{ℕ, ◌^◌, ◌/◌, ◌%◌}
use mathlib.Core.Path.{◌≡◌, refl, sym, ap, ◌∙◌}
use mathlib.Core.List.{List, [], ◌∷◌}
use mathlib.Core.Bool.{Bool, true, false, cond, not, ◌||◌}
use native.Mathlib.Omega.{arith}
use lib.ListN.{length}
use lib.Dec.{eqb, ltb}
use Rattle.rules.specs.Refusals.{Ending}
use Rattle.std.proofs.Common.{Ok, Err}
use Rattle.rules.specs.declared.Refusal.TheVariants.{Tool}
use Rattle.rules.specs.Tools.{is_tool, slot_of, holds, Within, all_tools, is_set}
use Rattle.rules.specs.Walk.{Walked}
use Rattle.rules.proofs.Tests.{and_left, implied, all_below, all_below-at, past_tools, tool-low}
use Rattle.promises.proofs.Nesting.{WalksNest, alike, ends, walks-nest}
use Rattle.store_rows.specs.declared.rows.Row.{Row}
use Rattle.store_rows.specs.Rows.{greeting}
use Rattle.store_greeting.specs.Bad.{is_done, never_short, walk_of, is_bad}
use Rattle.store_greeting.specs.Marks.{Note, note_of, samples_of, marks_of}
use Rattle.store_text.specs.Noted.{Listed, rows_listed}
use Rattle.store_save.specs.Saved.{any_bad, same_note, all_true, load_in, early_law, early}
use Rattle.store_save.proofs.Compared.{bad-split}
use Rattle.store_old.specs.Old.{walk_with, bad_with, any_bad_with, note_with, all_true_with, early_with, old_load_in}

-- every set's tools are among all tools
abbrev in_all : ℕ → Bool
in_all t = not (is_tool t) || holds all_tools t

all_held : all_below in_all past_tools ≡ true
unfolding holds
all_held = refl

within_all : (set : ℕ) → Within set all_tools
unfolding holds
within_all set = record {
  also = λ t e.
      let h = and_left (is_tool t) (eqb (set / 2 ^ slot_of t % 2) 1) e in
      implied (is_tool t) (holds all_tools t) (all_below-at in_all past_tools all_held t (tool-low t h)) h;
}

-- a test that is passed by no refusal
done-only : (e : Ending) (t : ℕ) {A : Type 0} → not (is_done e) ≡ false → e ≡ Err (Tool t) → A
done-only (Ok _) t h e = let z : ◌≡◌ {A = ℕ} 0 1 = cc in absurd (omega arith)
done-only (Err w) t h e = let z : ◌≡◌ {A = ℕ} 0 1 = cc in absurd (omega arith)

module _ (set : ℕ) (s : is_set set ≡ true) where
  module _ (law : ℕ) (xs : List ℕ) (e : bad_with set law xs ≡ false) where
    accepted : not (is_done (walk_with set law xs).end) ≡ false
    unfolding bad_with
    accepted = (bad-split (ltb (length xs) 1) _ e).1

    pub walk-alike : walk_with set law xs ≡ walk_of law xs
    walk-alike = go (walks-nest xs law set all_tools (never_short (length xs)) s refl (within_all set))
      where
        go : {v : Walked} → WalksNest set (walk_with set law xs) v → walk_with set law xs ≡ v
        go (alike d) = d
        go (ends t d h n) = done-only (walk_with set law xs).end t accepted d

    pub note-alike : note_with set law xs ≡ note_of law xs
    note-alike = ap (λ (w : Walked). record { law = law; samples = samples_of w.frames; marks = marks_of w.frames }) walk-alike

    one_alike : is_bad law xs ≡ false
    unfolding is_bad bad_with
    one_alike = ap (λ (w : Walked). cond (ltb (length xs) 1) true (not (is_done w.end))) (sym walk-alike) ∙ e

  pub bad-alike : (b : List ℕ) (xs : List Listed) → any_bad_with set b xs ≡ false → any_bad b xs ≡ false
  unfolding any_bad_with any_bad
  bad-alike b [] e = refl
  bad-alike b (x ∷ xs) e =
      let q = bad-split (bad_with set x.note.law (greeting b x.row)) _ e in
      rw (one_alike x.note.law (greeting b x.row) q.0) (bad-alike b xs q.1)

  pub true-alike : (b : List ℕ) (xs : List Listed) → any_bad_with set b xs ≡ false → all_true_with set b xs ≡ all_true b xs
  unfolding any_bad_with all_true_with all_true
  true-alike b [] e = refl
  true-alike b (x ∷ xs) e =
      let q = bad-split (bad_with set x.note.law (greeting b x.row)) _ e in
      ap (λ (n : Note). cond (same_note x.note n) (all_true_with set b xs) false) (note-alike x.note.law (greeting b x.row) q.0)
      ∙ ap (λ (t : Bool). cond (same_note x.note (note_of x.note.law (greeting b x.row))) t false) (true-alike b xs q.1)

  pub load-alike : (b : List ℕ) (size : ℕ) (xs : List Listed) → any_bad_with set b xs ≡ false → old_load_in set b size xs ≡ load_in b size xs
  unfolding old_load_in load_in
  load-alike b size xs e = rw (e, bad-alike b xs e, true-alike b xs e)

  -- R-6's lines
  pub early-alike : (b : List ℕ) (rows : List Row) → any_bad_with set b (early_with set b rows) ≡ false → early_with set b rows ≡ early b rows
  unfolding any_bad_with early_with early
  early-alike b [] e = refl
  early-alike b (r ∷ rows) e =
      let q = bad-split (bad_with set early_law (greeting b r)) _ e in
      ap (λ (n : Note). record { row = r; note = n } ∷ early_with set b rows) (note-alike early_law (greeting b r) q.0)
      ∙ ap (λ (l : List Listed). record { row = r; note = note_of early_law (greeting b r) } ∷ l) (early-alike b rows q.1)

-- whether a greeting is BAD hangs on its law and its octets alone
pub bad-early : (set : ℕ) (b : List ℕ) (rows : List Row) → any_bad_with set b (early_with set b rows) ≡ any_bad_with set b (early b rows)
unfolding any_bad_with early_with early
bad-early set b [] = refl
bad-early set b (r ∷ rows) = ap (λ (t : Bool). cond (bad_with set early_law (greeting b r)) true t) (bad-early set b rows)

pub rows-with : (set : ℕ) (b : List ℕ) (rows : List Row) → rows_listed (early_with set b rows) ≡ rows
unfolding rows_listed early_with
rows-with set b [] = refl
rows-with set b (r ∷ rows) = ap (λ (l : List Row). r ∷ l) (rows-with set b rows)
