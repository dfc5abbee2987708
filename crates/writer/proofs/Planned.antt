-- Laws of what was planned: its form is the chosen tool's.
use Prim.Native.Nat.{ℕ, ◌≤◌, ◌<◌}
use mathlib.Core.Path.{◌≡◌, refl, sym, ap, ◌∙◌}
use mathlib.Core.List.{List, map}
use native.Mathlib.Omega.{arith}
use native.Mathlib.Nat.{lt_of_lt_of_le}
use lib.ListN.{length, get_or}
use Rattle.rules.specs.Fractional.{radix, place_in, samples_at}
use Rattle.rules.specs.Chooses.{fractional_form, form_of}
use Rattle.rules.proofs.Octets.{Below, below_at}
use Rattle.rules.proofs.Signed.{LawMask}
use Rattle.rules.proofs.Fractional.{Among, places-below, radix-range, length-samples_at}
use Rattle.rules.proofs.FrameRow.{the_row, row-among}
use Rattle.write_scan.specs.declared.row.Row.{Row}
use Rattle.write_offers.specs.declared.Choice.{Choice}
use Rattle.write_choice.specs.declared.plans.Plain.{Plain}
use Rattle.write_choice.specs.declared.plans.ZerosPlan.{ZerosPlan}
use Rattle.write_choice.specs.declared.plans.NearPlan.{NearPlan}
use Rattle.write_choice.specs.Plans.{Chosen, PlainIs, ZerosPlanned, NearPlanned}
use Rattle.write_forms.specs.Forms.{row_form}
use Rattle.write_forms.proofs.Whole.{whole-form}
use Rattle.writer.specs.Answers.{full, plain, fitted, PutsChosen}

-- a plan, as it was told apart
pub zeros-told : {mask set : ℕ} {s runs : List ℕ} {row : Row} {p q : ZerosPlan} → p ≡ q → ZerosPlanned mask set s p row runs
    → ZerosPlanned mask set s q row runs
zeros-told e h = rw e at h

pub near-told : {mask set : ℕ} {s a b c : List ℕ} {p q : NearPlan} → p ≡ q → NearPlanned mask set s p a b c → NearPlanned mask set s q a b c
near-told e h = rw e at h

-- a form of the tool that was chosen is the chosen form: its bits are known, and it is put where it fits
module _ {mask set : ℕ} {s form : List ℕ} {c : Choice} (chosen : Chosen mask set s c) (is : form ≡ form_of mask c.tool s) where
  chosen-form : form ≡ (full mask set s).bits
  chosen-form = is ∙ ap (λ (k : ℕ). form_of mask k s) chosen.tool

  pub tool-bits : c.bits ≡ length form
  tool-bits = chosen.bits ∙ ap length (sym chosen-form)

  pub tool-puts : {out out' : List ℕ} → out' ≡ fitted form out → PutsChosen mask set s out out' c
  tool-puts {out} e = record { chosen = chosen; lent = e ∙ ap (λ (f : List ℕ). fitted f out) chosen-form }

-- tools 1 to 4, which the look settles
pub plain-full : {mask set : ℕ} {s : List ℕ} {c : Choice} → Chosen mask set s c → 1 ≤ c.tool → c.tool ≤ 4
    → plain c.tool s ≡ full mask set s
plain-full {mask} {set} {s} {c} chosen some most =
    ap (λ f. record { tool = c.tool; bits = f }) (whole-form mask c.tool s some most)
    ∙ ap (λ (k : ℕ). record { tool = k; bits = form_of mask k s }) chosen.tool

-- tools 1 to 4, as a plan
pub whole-plain : {mask : ℕ} {s : List ℕ} {c : Choice} → (1 ≤ c.tool) × (c.tool ≤ 4) → PlainIs mask s (record { choice = c; row = 0 })
whole-plain k = record { row = λ e. absurd (omega (arith, e, k.0, k.1)); kind = λ n. k }

-- fractional-bit, where it was chosen
module _ (mask n : ℕ) (s : List ℕ) (p : Plain) (size : length s ≡ n) (is : PlainIs mask s p) (eleven : p.choice.tool ≡ 11) where
  pub row-form : row_form mask n p.row s ≡ form_of mask 11 s
  unfolding form_of fractional_form
  row-form = rw ((is.row eleven).0, ← size) refl

  pub row-few : p.row < 12
  row-few = rw (is.row eleven).0 (the_row mask s (is.row eleven).1).few

  pub row-digits : LawMask mask → Below 256 s → (i : ℕ) → get_or (map (place_in (samples_at mask p.row)) s) i 0 < radix p.row
  row-digits law b =
      let k = p.row in
      let e = (is.row eleven).0 in
      let a : Among (samples_at mask k) s = rw e (row-among law s b (is.row eleven).1) in
      let below = rw (length-samples_at mask k) at (places-below (samples_at mask k) a) in
      below_at below (lt_of_lt_of_le (omega arith) (radix-range k row-few).0)
