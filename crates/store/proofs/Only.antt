-- Nothing else fits: each call's contract determines the answer and what it leaves, for all inputs, refused ones too (`only-put`,
-- `only-get`, `only-delete`); and the paper's number, with the two numbers told, determines the answer (`answers-one-to-one`). A refusal
-- changes nothing (`refused-nothing`). Each refusal is given exactly where it is the first of the order that fails (`put_refused`,
-- `get_refused`, `delete-refused`); what an answer then says of what was asked: `outcome-leaves`, `outcome-refused`.
use Prim.Native.Nat.{ℕ}
use mathlib.Core.Path.{◌≡◌, refl, sym, ap₂, ◌∙◌}
use mathlib.Core.List.{List}
use mathlib.Core.Bool.{cond}
use mathlib.Core.Logic.{◌↔◌}
use native.Mathlib.Omega.{arith}
use lib.Dec.{eqb}
use Rattle.rules.specs.Judged.{Asked, judged}
use Rattle.rules.proofs.Judged.{AllMet, First, by-judged, Apart, judged-refuses, Gives, first_gives}
use Rattle.store.specs.declared.Refusal.{Refusal}
use Rattle.store.specs.declared.Refusal.TheVariants.{Room, Law, Number, Taken, Absent, Bad, Full, NoRoom, Table}
use Rattle.std.proofs.Common.{Ok, Err}
use Rattle.store.specs.Store.{After, leaves, refused, put_in, get_in, delete_in}
use Rattle.store.specs.Calls.{Answer, refusal_number, number_of, first_of, second_of, put_order, find_order, put_of, get_of, delete_of, Says, Put, Get, Delete}

-- a call leaves something or is refused
pub outcomes : (a : After) → Apart refused (leaves a)
outcomes a = record { other = λ w e. let z : ◌≡◌ {A = ℕ} 0 1 = cc in omega arith; same = λ v w e. cc }

module _ (asks : List (Asked Refusal)) (after : After) where
  pub outcome-leaves : {a : After} → judged asks refused (leaves after) ≡ leaves a → AllMet asks × (a ≡ after)
  outcome-leaves {a} e =
      by-judged refused (leaves after) (λ o. o ≡ leaves a → AllMet asks × (a ≡ after)) asks (λ m g. (m, cc))
      (λ w f g. absurd ((outcomes a).other w g)) e

  pub outcome-refused : (w : Refusal) → judged asks refused (leaves after) ≡ refused w → Gives refusal_number w asks
  outcome-refused w e = first_gives refusal_number w ((judged-refuses (outcomes after) asks w).0 e)

-- "Refusals, in order": each exactly where it is the first that fails
module _ (b t : List ℕ) (x : ℕ) (w : Refusal) where
  pub put_refused : (law : ℕ) (xs : List ℕ) → (put_of b t law x xs ≡ refused w) ↔ First w (put_order b t law x xs)
  unfolding put_in
  put_refused law xs = judged-refuses (outcomes _) (put_order b t law x xs) w

  pub get_refused : (get_of b t x ≡ refused w) ↔ First w (find_order b t x)
  unfolding get_in
  get_refused = judged-refuses (outcomes _) (find_order b t x) w

  pub delete-refused : (delete_of b t x ≡ refused w) ↔ First w (find_order b t x)
  unfolding delete_in
  delete-refused = judged-refuses (outcomes _) (find_order b t x) w

-- two answers, and what two calls leave, are the same
pub record Same (r s : Answer) (b₁ t₁ b₂ t₂ : List ℕ) : Type 0 where
  pub answer : r ≡ s
  pub block : b₁ ≡ b₂
  pub table : t₁ ≡ t₂

pub only-put : (law number : ℕ) (xs b t : List ℕ) {b₁ t₁ b₂ t₂ : List ℕ} {r s : Answer} → Put law number xs b t b₁ t₁ r
    → Put law number xs b t b₂ t₂ s → Same r s b₁ t₁ b₂ t₂
only-put law number xs b t p q =
    record { answer = p.answer ∙ sym q.answer; block = p.block ∙ sym q.block; table = p.table ∙ sym q.table }

pub only-get : (number : ℕ) (b t : List ℕ) {r s : Answer} → Get number b t r → Get number b t s → r ≡ s
only-get number b t p q = p ∙ sym q

pub only-delete : {number : ℕ} {b t t₁ t₂ : List ℕ} {r s : Answer} → Delete number b t t₁ r → Delete number b t t₂ s → Same r s b t₁ b t₂
only-delete p q = record { answer = p.answer ∙ sym q.answer; block = refl; table = p.table ∙ sym q.table }

-- "a refused one changes nothing"
pub refused-nothing : {w : Refusal} {b t b' t' : List ℕ} {r : Answer} → Says (refused w) b t b' t' r → Same r (Err w) b' t' b t
refused-nothing s = record { answer = s.answer; block = s.block; table = s.table }

-- the answer, by the paper's number and the two numbers told
abbrev why : ℕ → Refusal
why n =
    cond (eqb n 4) Room (cond (eqb n 12) Law (cond (eqb n 15) Number (cond (eqb n 16) Taken (cond (eqb n 17) Absent (cond (eqb n 18) Bad
    (cond (eqb n 19) Full (cond (eqb n 20) NoRoom Table)))))))

pub record Told : Type 0 where
  pub first : ℕ
  pub second : ℕ

abbrev told : Answer → Told
told a = record { first = first_of a; second = second_of a }

abbrev answer_by : ℕ → Told → Answer
answer_by n t = cond (eqb n 0) (Ok (t.first, t.second)) (Err (why n))

by-numbers : (a : Answer) → answer_by (number_of a) (told a) ≡ a
by-numbers (Ok (first, second)) = refl
by-numbers (Err Room) = refl
by-numbers (Err Law) = refl
by-numbers (Err Number) = refl
by-numbers (Err Taken) = refl
by-numbers (Err Absent) = refl
by-numbers (Err Bad) = refl
by-numbers (Err Full) = refl
by-numbers (Err NoRoom) = refl
by-numbers (Err Table) = refl

pub answers-one-to-one : (a b : Answer) → number_of a ≡ number_of b → first_of a ≡ first_of b → second_of a ≡ second_of b → a ≡ b
answers-one-to-one a b n f s =
    let same : told a ≡ told b = rw (f, s) in
    sym (by-numbers a) ∙ ap₂ answer_by n same ∙ by-numbers b
