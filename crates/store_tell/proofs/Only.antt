-- Nothing else fits: each call's contract determines its answer for all inputs, refused ones too (`only-told`, `only-summed`). Each refusal
-- is given exactly where it is the first of the order that fails (`info-refuses`, `at-refuses`, `totals-refuses`).
use Prim.Native.Nat.{ℕ}
use mathlib.Core.Path.{◌≡◌, sym, ◌∙◌}
use mathlib.Core.List.{List}
use mathlib.Core.Logic.{◌↔◌}
use native.Mathlib.Omega.{arith}
use Rattle.std.proofs.Common.{Ok, Err}
use Rattle.rules.proofs.Judged.{First, Apart, judged-refuses}
use Rattle.store.specs.declared.Refusal.{Refusal}
use Rattle.store.specs.Calls.{find_order}
use Rattle.store_tell.specs.declared.Entry.{Entry}
use Rattle.store_tell.specs.declared.Sums.{Sums}
use Rattle.store_tell.specs.Calls.{Told, Summed, info_of, at_order, at_of, totals_order, totals_for}

-- a call tells or is refused
tolds : (e : Entry) → Apart {A = Told} Err (Ok e)
tolds e = record { other = λ w p. let z : ◌≡◌ {A = ℕ} 0 1 = cc in omega arith; same = λ v w p. cc }

summeds : (s : Sums) → Apart {A = Summed} Err (Ok s)
summeds s = record { other = λ w p. let z : ◌≡◌ {A = ℕ} 0 1 = cc in omega arith; same = λ v w p. cc }

module _ (b t : List ℕ) (w : Refusal) where
  pub info-refuses : (number : ℕ) → (info_of b t number ≡ Err w) ↔ First w (find_order b t number)
  unfolding info_of
  info-refuses number = judged-refuses (tolds _) (find_order b t number) w

  pub at-refuses : (index : ℕ) → (at_of b t index ≡ Err w) ↔ First w (at_order b t index)
  unfolding at_of
  at-refuses index = judged-refuses (tolds _) (at_order b t index) w

  pub totals-refuses : (totals_for b t ≡ Err w) ↔ First w (totals_order b t)
  unfolding totals_for
  totals-refuses = judged-refuses (summeds _) (totals_order b t) w

-- no second answer
pub only-told : {o r s : Told} → r ≡ o → s ≡ o → r ≡ s
only-told p q = p ∙ sym q

pub only-summed : {o r s : Summed} → r ≡ o → s ≡ o → r ≡ s
only-summed p q = p ∙ sym q
