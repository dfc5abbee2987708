-- A tool's offer is its state: `state-out`, `state-no`, `state-fits`.
use Prim.Native.Nat.{ℕ, ◌≤◌}
use native.Mathlib.Omega.{arith}
use mathlib.Core.Path.{◌≡◌, refl, sym, ap, ◌∙◌}
use mathlib.Core.List.{List, [], ◌∷◌}
use mathlib.Core.Bool.{Bool, true, false, cond, not, ◌&&◌}
use lib.ListN.{length}
use lib.Dec.{eqb, leb}
use lib.IntN.{pos, negsuc}
use borrow.Author.Tests.{ne_eqb, eqb-true}
use Rattle.rules.specs.Tools.{holds}
use Rattle.rules.specs.Bits.{octets_for}
use Rattle.rules.specs.Chooses.{applies, has_row, row_of, zero_leads}
use Rattle.std.proofs.Common.{Ok, Err}
use Rattle.write_offers.specs.declared.Condition.{Condition}
use Rattle.write_offers.specs.Offers as offers
use Rattle.write_offers.specs.Offers.{condition_told, condition-not-zero, OfferIs}
use Rattle.reasons.specs.declared.State.TheVariants.{Out, No, Fits}
use Rattle.reasons.specs.Why.{located_conditions, conditions, first_failing, failing, state_of}
use Rattle.reasons.proofs.Promises.{fits-when, out-when}

-- the first failing condition, as the offer tells it
of_three : (a b c d e : Bool) → cond (a && b && c && d && e) 0 (cond a (cond b 3 2) 1) ≡ first_failing 1 (a ∷ b ∷ (c && d && e) ∷ [])
unfolding first_failing
of_three false b c d e = refl
of_three true false c d e = refl
of_three true true false d e = refl
of_three true true true false e = refl
of_three true true true true false = refl
of_three true true true true true = refl

of_one : (a : Bool) → cond a 0 1 ≡ first_failing 1 (a ∷ [])
unfolding first_failing
of_one false = refl
of_one true = refl

of-seven : (mask : ℕ) (s : List ℕ) → cond (applies mask 7 s) 0 (cond (leb 80 (length s)) (cond (has_row (row_of mask s)) 3 2) 1) ≡ first_failing
    1 (located_conditions mask s)
unfolding applies
of-seven mask s = of_three (leb 80 (length s)) (has_row (row_of mask s)) (zero_leads mask s (pos 1)) (zero_leads mask s (negsuc 0))
    (zero_leads mask s (negsuc 1))

of-tool : (mask : ℕ) (s : List ℕ) (t : ℕ) (b : Bool) → 1 ≤ length s → eqb t 7 ≡ b
    → cond (applies mask t s) 0 (cond b (cond (leb 80 (length s)) (cond (has_row (row_of mask s)) 3 2) 1) 1)
    ≡ first_failing 1 (cond b (located_conditions mask s) ((not (eqb (length s) 0) && applies mask t s) ∷ []))
of-tool mask s t true h e = rw (eqb-true t 7 e) (of-seven mask s)
of-tool mask s t false h e = rw (ne_eqb (length s) 0 (λ z. omega arith)) (of_one (applies mask t s))

pub offer-failing : (mask : ℕ) (s : List ℕ) (t : ℕ) → 1 ≤ length s → offers.failing mask t s ≡ failing mask s t
unfolding offers.failing conditions
offer-failing mask s t h = of-tool mask s t (eqb t 7) h refl

module _ (mask set : ℕ) (s : List ℕ) (t : ℕ) (some : 1 ≤ length s) where
  pub state-out : holds set t ≡ false → Out ≡ state_of mask set s t
  state-out e = sym (out-when mask set s t e)

  module _ (held : holds set t ≡ true) where
    pub state-no : (why : Condition) → OfferIs mask t s (Err why) → No (condition_told why) ≡ state_of mask set s t
    unfolding state_of
    state-no why is =
        let told : condition_told why ≡ failing mask s t = is.1 ∙ offer-failing mask s t some in
        rw (held, ← told, ne_eqb (condition_told why) 0 (condition-not-zero why))

    pub state-fits : {bits octets : ℕ} → OfferIs mask t s (Ok bits) → octets ≡ octets_for bits → Fits octets ≡ state_of mask set s t
    state-fits is f = ap Fits (f ∙ ap octets_for is.1.0) ∙ sym (fits-when mask set s t some held is.0)
