-- The winner and the tie, from the states alone: `reasons-are`, and for a frame of no samples `empty-reasons-are`.
use Prim.Native.Nat.{ℕ, ◌+◌, ◌≤◌, ◌<◌}
use native.Mathlib.Omega.{arith}
use mathlib.Core.Path.{◌≡◌, refl, sym, ap, ◌∙◌}
use mathlib.Core.List.{List, [], ◌∷◌}
use mathlib.Core.Bool.{Bool, true, false, cond, not, ◌&&◌}
use lib.ListN.{length}
use lib.Dec.{eqb, leb}
use borrow.Author.Tests.{le-leb, lt-leb, eq-eqb, ne_eqb}
use Rattle.rules.specs.Tools.{holds}
use Rattle.rules.specs.Bits.{octets_for}
use Rattle.rules.specs.Chooses.{applies, octets_of_form, choose, chosen_tool, Written, chosen}
use Rattle.write_offers.proofs.Choosing.{uncompressed-chosen}
use Rattle.reasons.specs.declared.State.{State}
use Rattle.reasons.specs.declared.State.TheVariants.{Out, No, Fits}
use Rattle.reasons.specs.declared.States.{States}
use Rattle.reasons.specs.Why.{failing, state_of, winner_of, needs, octets_written, also_needs, any_of, tools, states_of, reasons_of}
use Rattle.reasons.proofs.Promises.{failing-applies, empty-fails, fits-only, chosen-some, tie-only}
use Rattle.reasoning.specs.declared.Best.{Best}
use Rattle.reasoning.specs.Best.{best_by, best_in, also_by, tie_in, empty_state, empty_reasons}

-- the steps of the code
module _ (best : Best) (t : ℕ) where
  pub best-out : {state : State} → state ≡ Out → best ≡ best_by best t state
  best-out e = rw e

  pub best-no : {state : State} (why : ℕ) → state ≡ No why → best ≡ best_by best t state
  best-no why e = rw e

  pub best-more : {state : State} (octets : ℕ) → state ≡ Fits octets → best.octets < octets → best ≡ best_by best t state
  best-more octets e h = rw (e, lt-leb octets best.octets h)

  pub best-not-more : {state : State} (octets : ℕ) → state ≡ Fits octets → octets ≤ best.octets
      → record { tool = t; octets = octets } ≡ best_by best t state
  best-not-more octets e h = rw (e, le-leb octets best.octets h)

  pub also-same : (state : State) → t ≡ best.tool → false ≡ also_by best t state
  also-same state e = rw (eq-eqb t best.tool e)

  -- another tool, by its state
  pub also-other : (state : State) {b : Bool} → (t ≡ best.tool → ⊥) → b ≡ needs state best.octets → b ≡ also_by best t state
  also-other state n e = rw (ne_eqb t best.tool n) e

module _ (mask set : ℕ) (s : List ℕ) (some : 1 ≤ length s) where
  -- a tool, with its form's octets
  abbrev with : ℕ → Best
  with t = record { tool = t; octets = octets_of_form mask s t }

  one_of : (b : Bool) (t c : ℕ) → cond b (with t) (with c) ≡ with (cond b t c)
  one_of true t c = refl
  one_of false t c = refl

  best-step : (held fit : Bool) (f t c : ℕ) → eqb f 0 ≡ fit
      → best_by (with c) t (cond (not held) Out (cond (eqb f 0) (Fits (octets_of_form mask s t)) (No f)))
      ≡ with (cond (held && fit && leb (octets_of_form mask s t) (octets_of_form mask s c)) t c)
  best-step false fit f t c e = refl
  best-step true false f t c e = rw e
  best-step true true f t c e = rw e (one_of (leb (octets_of_form mask s t) (octets_of_form mask s c)) t c)

  -- one tool more of the tie order
  best-on : (t : ℕ) (ts : List ℕ) (b : Best) → b ≡ with (choose mask set s ts)
      → best_by b t (state_of mask set s t) ≡ with (choose mask set s (t ∷ ts))
  unfolding choose state_of
  best-on t ts b e = rw e
      (best-step (holds set t) (applies mask t s) (failing mask s t) t (choose mask set s ts) (failing-applies mask s t some))

  from_one : length s ≤ 320 → record { tool = 1; octets = length s + 1 } ≡ with (choose mask set s [])
  unfolding choose
  from_one few =
      let bits = (uncompressed-chosen mask s refl set few).bits in
      ap (λ (k : ℕ). record { tool = 1; octets = k }) (omega (arith, bits))

  best-is : length s ≤ 320 → best_in (states_of mask set s) (length s) ≡ with (chosen_tool mask set s)
  unfolding states_of
  best-is few =
      best-on 2 (3 ∷ 4 ∷ 5 ∷ 6 ∷ 7 ∷ 11 ∷ []) _ (best-on 3 (4 ∷ 5 ∷ 6 ∷ 7 ∷ 11 ∷ []) _ (best-on 4 (5 ∷ 6 ∷ 7 ∷ 11 ∷ []) _
      (best-on 5 (6 ∷ 7 ∷ 11 ∷ []) _ (best-on 6 (7 ∷ 11 ∷ []) _ (best-on 7 (11 ∷ []) _ (best-on 11 [] _ (from_one few)))))))

  -- the winner, with the octets that the writer writes
  best-written : length s ≤ 320
      → best_in (states_of mask set s) (length s) ≡ record { tool = winner_of mask set s; octets = octets_written mask set s }
  best-written few =
      best-is few ∙ sym (ap (λ (w : Written). record { tool = w.tool; octets = octets_for (length w.bits) })
      (chosen-some mask set s some))

  tie-is : tie_in (states_of mask set s) (record { tool = winner_of mask set s; octets = octets_written mask set s }) ≡ any_of
      (also_needs mask set s) tools
  unfolding any_of also_needs states_of
  tie-is = refl

  pub reasons-are : {states : States} {best : Best} {tie : Bool} {n : ℕ} → length s ≡ n → n ≤ 320 → states ≡ states_of mask set s
      → best ≡ best_in states n
      → tie ≡ tie_in states best → record { states = states; winner = best.tool; tie = tie } ≡ reasons_of mask set s
  unfolding reasons_of
  reasons-are {states} {best} {tie} {n} l few e f g =
      let b : best ≡ record { tool = winner_of mask set s; octets = octets_written mask set s } = f
      ∙ rw (e, ← l) (best-written (omega arith)) in
      let t : tie ≡ any_of (also_needs mask set s) tools = g ∙ rw (b, e) tie-is in
      rw (t, b, e)

-- a frame of no samples
empty-state : (mask set t : ℕ) → state_of mask set [] t ≡ empty_state set t
unfolding state_of
empty-state mask set t = rw (empty-fails mask t)

no_tie : (mask set : ℕ) (b : Bool) → (reasons_of mask set []).tie ≡ b → b ≡ false
no_tie mask set false e = refl
no_tie mask set true e = let a = tie-only mask set [] e in absurd (omega (arith, (fits-only mask set [] a.tool _ a.fits).some))

pub empty-reasons-are : (mask set : ℕ) → reasons_of mask set [] ≡ empty_reasons set
unfolding reasons_of states_of chosen
empty-reasons-are mask set =
    let tie : any_of (also_needs mask set []) tools ≡ false = no_tie mask set (any_of (also_needs mask set []) tools) refl in
    rw (
      tie,
      empty-state mask set 1,
      empty-state mask set 2,
      empty-state mask set 3,
      empty-state mask set 4,
      empty-state
          mask set 5,
      empty-state mask set 6,
      empty-state mask set 7,
      empty-state mask set 11,
    )
