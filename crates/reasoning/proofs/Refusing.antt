-- The refusals in the code's steps: LAW and SET by the writer's guard, then LENGTH.
use Prim.Native.Nat.{ℕ}
use mathlib.Core.Path.{◌≡◌, refl, sym, ◌∙◌}
use mathlib.Core.List.{List}
use mathlib.Core.Bool.{Bool, true, false, cond, not, ◌||◌}
use lib.ListN.{take}
use lib.Dec.{eqb}
use borrow.Author.Tests.{ne_eqb}
use Rattle.rules.specs.declared.Refusal.{Refusal}
use Rattle.rules.specs.declared.Refusal.TheVariants.{Length}
use Rattle.std.proofs.Common.{Result, Ok, Err}
use Rattle.rules.specs.Refusals.{verdict}
use Rattle.rules.specs.Tools.{is_length, writer_asks}
use Rattle.rules.specs.Samples.{mask_of}
use Rattle.rules.proofs.Guards.{verdict-refused, verdict-done}
use Rattle.reasons.specs.declared.Reasons.{Reasons}
use Rattle.reasons.specs.Why.{reasons_of, why_one}
use Rattle.reasoning.specs.Best.{empty_reasons, why_allowed}
use Rattle.reasoning.proofs.Winning.{empty-reasons-are}

abbrev Why : Type 0
Why = Result Reasons Refusal

module _ (n : ℕ) (samples : List ℕ) (law set : ℕ) where
  pub why-refused : {why : Refusal} → verdict (writer_asks law set) ≡ Err why → ◌≡◌ {A = Why} (Err why) (why_one n samples law set)
  unfolding why_one
  why-refused e = sym (verdict-refused Err _ (writer_asks law set) e)

  why-done : verdict (writer_asks law set) ≡ Ok tt → why_allowed n (take n samples) (mask_of law) set ≡ why_one n samples law set
  unfolding why_one
  why-done e = sym (verdict-done Err _ (writer_asks law set) e)

  -- by the mask that the code takes
  pub why-told : {mask : ℕ} {r : Why} → mask ≡ mask_of law → verdict (writer_asks law set) ≡ Ok tt
      → r ≡ why_allowed n (take n samples) mask set → r ≡ why_one n samples law set
  why-told m e t = (rw m at t) ∙ why-done e

-- LENGTH, or not
no_length : (none sized : Bool) (a b : Why) → none ≡ false → sized ≡ false → a ≡ cond (not (none || sized)) a b
no_length none sized a b e f = rw (e, f)

is_one : (none sized : Bool) (a b : Why) → sized ≡ true → b ≡ cond (not (none || sized)) a b
is_one true sized a b f = refl
is_one false sized a b f = rw f

module _ (n : ℕ) (samples : List ℕ) (mask set : ℕ) where
  pub allowed-none : {r : Reasons} → n ≡ 0 → r ≡ empty_reasons set → ◌≡◌ {A = Why} (Ok r) (why_allowed n (take n samples) mask set)
  allowed-none e f = rw (e, f, empty-reasons-are mask set)

  pub allowed-not : (n ≡ 0 → ⊥) → is_length n ≡ false → ◌≡◌ {A = Why} (Err Length) (why_allowed n (take n samples) mask set)
  allowed-not e f = no_length (eqb n 0) (is_length n) (Err Length) _ (ne_eqb n 0 e) f

  pub allowed-told : {r : Reasons} → is_length n ≡ true → r ≡ reasons_of mask set (take n samples)
      → ◌≡◌ {A = Why} (Ok r) (why_allowed n (take n samples) mask set)
  allowed-told {r} e f = rw f (is_one (eqb n 0) (is_length n) (Err Length) (Ok (reasons_of mask set (take n samples))) e)
