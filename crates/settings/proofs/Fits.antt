-- Nothing else fits: each call's contract determines the answer and what it leaves, for all inputs, refused ones too (`only-adds`,
-- `only-prints`, `only-wipe`); and the paper's number, with what is told, determines the answer (`answers-one-to-one`). A refusal changes
-- nothing (`refused-nothing`).
use Rattle.settings.specs.declared.Settings.{Settings}
use Rattle.std.specs.Prelude.{Option}
use Prim.Native.Nat.{ℕ}
use mathlib.Core.Path.{◌≡◌, refl, sym, ap₂, ◌∙◌}
use mathlib.Core.List.{List}
use mathlib.Core.Bool.{cond}
use lib.Dec.{eqb}
use Rattle.settings.specs.Answers.{Answer}
use Rattle.std.specs.Prelude.{Ok, Err}
use Rattle.settings.specs.declared.Refusal.{Refusal}
use Rattle.settings.specs.declared.Refusal.TheVariants.{Line, Gone, Spent}
use Rattle.settings.specs.Revisions.{Outcome, refused}
use Rattle.settings.specs.Calls.{number_of, told_of, Adds, Prints, Wipe}

-- two answers, and what two calls leave, are the same
pub record Same (r s : Answer) (left₁ left₂ : List ℕ) : Type 0 where
  pub answer : r ≡ s
  pub left : left₁ ≡ left₂

-- saving and going back
pub only-adds : {o : Outcome} {cells c₁ c₂ : List ℕ} {r s : Answer} → Adds o cells c₁ r → Adds o cells c₂ s → Same r s c₁ c₂
only-adds a b = record { answer = a.answer ∙ sym b.answer; left = a.state ∙ sym b.state }

-- reading
pub only-prints : {k : Option Settings} {text t₁ t₂ : List ℕ} {r s : Answer} → Prints k text t₁ r → Prints k text t₂ s → Same r s t₁ t₂
only-prints a b = record { answer = a.answer ∙ sym b.answer; left = a.lent ∙ sym b.lent }

pub only-wipe : (cells : List ℕ) {c₁ c₂ : List ℕ} → Wipe cells c₁ → Wipe cells c₂ → c₁ ≡ c₂
only-wipe cells a b = a ∙ sym b

-- "a refusal changes nothing"
pub refused-nothing : {w : Refusal} {cells cells' : List ℕ} {r : Answer} → Adds (refused w) cells cells' r → Same r (Err w) cells' cells
refused-nothing a = record { answer = a.answer; left = a.state }

-- the answer, by the paper's number and what is told
abbrev answer_by : ℕ → ℕ → Answer
answer_by n told = cond (eqb n 23) (Err Line) (cond (eqb n 24) (Err Gone) (cond (eqb n 25) (Err Spent) (Ok told)))

by-numbers : (a : Answer) → answer_by (number_of a) (told_of a) ≡ a
by-numbers (Ok n) = refl
by-numbers (Err Line) = refl
by-numbers (Err Gone) = refl
by-numbers (Err Spent) = refl

pub answers-one-to-one : (a b : Answer) → number_of a ≡ number_of b → told_of a ≡ told_of b → a ≡ b
answers-one-to-one a b n t = sym (by-numbers a) ∙ ap₂ answer_by n t ∙ by-numbers b
