-- Marks compared as a greeting is walked: `walking-first`, `walking-turn`, `walking-end`.
use Prim.Native.Nat.{ℕ, ◌+◌, ◌*◌, ◌≤◌, ◌<◌}
use mathlib.Core.Path.{◌≡◌, refl, sym, ap, ◌∙◌}
use mathlib.Core.List.{List, ◌∷◌}
use mathlib.Core.Bool.{false}
use native.Mathlib.Omega.{arith}
use lib.ListN.{length, drop}
use Rattle.rules.specs.declared.WalkAnswer.{WalkAnswer}
use Rattle.rules.specs.Tools.{most_law}
use Rattle.rules.specs.Walk.{longest}
use Rattle.walk.specs.Counting.{Counts}
use Rattle.rules.proofs.Walk.{walk-told}
use Rattle.store_greeting.specs.Bad.{is_bad, store_set}
use Rattle.store_greeting.specs.Marks.{Mark, mark_of, note_of}
use Rattle.store_greeting.proofs.Taking.{Along, next, along-start, along-turn, along-inside}
use Rattle.store_greeting.proofs.Taking.{along-samples, next-clean, next-on, marks-here, marks-over}
use Rattle.std.specs.Prelude.{Option, Some, None}
use Rattle.store_text.specs.Passing.{next_of, mark_is, no_mark, marks_are}
use Rattle.store_text.proofs.Marks.{marks-astray, marks-on, marks-done}

module _ (law : ℕ) (xs : List ℕ) (text : List ℕ) (place : ℕ) where
  abbrev all : List Mark
  all = (note_of law xs).marks

  abbrev answer : Option ℕ
  answer = next_of (marks_are all text place)

  -- the marks of what was walked are the same; what is left is to be compared
  pub record Walking (i at samples : ℕ) : Type 0 where
    pub m : ℕ
    pub along : Along law xs m at samples
    pub left : answer ≡ next_of (marks_are (drop m all) text i)

  pub walking-first : Walking place 0 0
  walking-first = record { m = 0; along = along-start law xs; left = refl }

  module _ {i at samples : ℕ} (w : Walking i at samples) where
    pub walking-small : length xs ≤ longest → samples ≤ 320 * longest
    walking-small g = omega (arith, along-samples law xs w.along, along-inside law xs w.along)

    pub walking-more : {r : WalkAnswer} → Counts (next law xs at) r → r.samples ≤ 20480
    walking-more c = omega (arith, c.samples, (walk-told xs law store_set 64 at 20480).fits)

    module _ (l : law ≤ most_law) (g : length xs ≤ longest) (f : is_bad law xs ≡ false) where
      module _ (h : at < length xs) where
        here : answer ≡ next_of (marks_are (mark_of at samples ∷ drop (w.m + 1) all) text i)
        here = w.left ∙ ap (λ (ms : List Mark). next_of (marks_are ms text i)) (marks-here law xs w.along l g f h)

        pub walking-astray : None ≡ next_of (mark_is at samples text i) → None ≡ answer
        walking-astray e = marks-astray (mark_of at samples) (drop (w.m + 1) all) text i e ∙ sym here

        pub walking_on : {r : WalkAnswer} → Counts (next law xs at) r → at < r.place
        walking_on c = omega (arith, c.place, next-on law xs w.along h (next-clean law xs w.along l g f h))

        pub walking-turn : {j : ℕ} {r : WalkAnswer} → Some j ≡ next_of (mark_is at samples text i) → Counts (next law xs at) r
            → Walking j r.place (samples + r.samples)
        walking-turn e c =
            record {
              m = w.m + 1;
              along = along-turn law xs w.along h (next-clean law xs w.along l g f h) c.place c.samples;
              left = here ∙ marks-on (mark_of at samples) (drop (w.m + 1) all) text i e;
            }

      pub walking-end : length xs ≤ at → {r : Option ℕ} → r ≡ next_of (no_mark text i) → r ≡ answer
      walking-end h e =
          marks-done text i e ∙ sym (w.left ∙ ap (λ (ms : List Mark). next_of (marks_are ms text i)) (marks-over law xs w.along l g f h))
