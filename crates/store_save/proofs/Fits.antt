-- Each contract leaves one answer, and one content of what is lent (`only-save`, `only-load`). A saving is refused exactly where that is
-- the first that fails (`save-refused`); what a text then says of what was asked: `text-saved`, `text-declined`.
use Prim.Native.Nat.{ℕ}
use mathlib.Core.Path.{◌≡◌, sym, ◌∙◌}
use mathlib.Core.List.{List}
use mathlib.Core.Logic.{◌↔◌}
use native.Mathlib.Omega.{arith}
use Rattle.rules.specs.Judged.{Asked, judged}
use Rattle.rules.proofs.Judged.{AllMet, First, by-judged, Apart, judged-refuses, Gives, first_gives}
use Rattle.store.specs.declared.Refusal.{Refusal}
use Rattle.store.specs.Calls.{Answer, refusal_number}
use Rattle.store_save.specs.Saved.{saved, declined, save_order, save_of}
use Rattle.store_save.specs.Calls.{Save, Load}

pub only-save : (b t out : List ℕ) {out₁ out₂ : List ℕ} {r₁ r₂ : Answer} → Save b t out out₁ r₁ → Save b t out out₂ r₂
    → (r₁ ≡ r₂) × (out₁ ≡ out₂)
only-save b t out p q = (p.answer ∙ sym q.answer, p.lent ∙ sym q.lent)

pub only-load : (text b t : List ℕ) {t₁ t₂ : List ℕ} {r₁ r₂ : Answer} → Load text b t t₁ r₁ → Load text b t t₂ r₂ → (r₁ ≡ r₂) × (t₁ ≡ t₂)
only-load text b t p q = (p.answer ∙ sym q.answer, p.table ∙ sym q.table)

-- a text is saved or declined
texts : (text : List ℕ) → Apart declined (saved text)
texts text = record { other = λ w e. let z : ◌≡◌ {A = ℕ} 0 1 = cc in omega arith; same = λ v w e. cc }

module _ (asks : List (Asked Refusal)) (all : List ℕ) where
  pub text-saved : {text : List ℕ} → judged asks declined (saved all) ≡ saved text → AllMet asks × (text ≡ all)
  text-saved {text} e =
      by-judged declined (saved all) (λ o. o ≡ saved text → AllMet asks × (text ≡ all)) asks (λ m g. (m, cc))
      (λ w f g. absurd ((texts text).other w g)) e

  pub text-declined : (w : Refusal) → judged asks declined (saved all) ≡ declined w → Gives refusal_number w asks
  text-declined w e = first_gives refusal_number w ((judged-refuses (texts all) asks w).0 e)

pub save-refused : (b t : List ℕ) (room : ℕ) (w : Refusal) → (save_of b t room ≡ declined w) ↔ First w (save_order b t room)
save-refused b t room w = judged-refuses (texts _) (save_order b t room) w
