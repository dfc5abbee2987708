-- The zeros' plan as it was told apart, and its form (Planned).
use Prim.Native.Nat.{◌/◌}
use mathlib.Core.Path.{◌≡◌, refl}
use mathlib.Core.List.{map}
use lib.ListN.{length}
use Rattle.rules.specs.Zeros.{flag_of}
use Rattle.rules.specs.Chooses.{form_of}
use Rattle.write_scan.specs.Rows.{RowIs}
use Rattle.write_scan.proofs.Tests.{mask-seven}
use Rattle.write_zeros.proofs.Turning.{row-flags}
use Rattle.write_choice.specs.declared.plans.ZerosPlan.{ZerosPlan}
use Rattle.write_choice.specs.Plans.{ZerosPlanned}
use Rattle.write_forms.specs.Forms.{binary_form}
use Rattle.write_forms.proofs.Form.{rice-ready, rice-form, binary-form}
use Rattle.writer.proofs.Planned.{zeros-told, tool-bits, tool-puts, whole-plain}
use Rattle.writer.proofs.fit_zeros.Goals.{After-others-row, After-zeros_plan-plan}
use Rattle.writer.proofs.fit_zeros.Goals as goal

pub plus_zero-requires : goal.plus_zero-requires
plus_zero-requires c = mask-seven _ c.requires.frame_in.1

-- the row of the flags of plus zero
module _ (c : After-others-row) where
  words : RowIs (map (flag_of c.args.mask 0) c.args.frame.now) (length c.args.frame.now / 40) c.others-row.result
  words = row-flags c.args.mask c.args.frame.now c.plus_zero.ensures c.others-row.ensures

pub others-row-requires : goal.others-row-requires
others-row-requires c = (c.requires.frame_in.0.few, c.requires.frame_in.0.whole)

pub zeros_plan-plan-requires : goal.zeros_plan-plan-requires
zeros_plan-plan-requires c =
    record {
      frame_in = c.requires.frame_in;
      left = c.requires.left;
      row_is = words (goal.at.zeros_plan-plan-requires c).After-others-row;
    }

-- the plan, as it was told apart; binary as it is put is the tool's form
module _ (c : After-zeros_plan-plan) where
  planned : {p : ZerosPlan} → c.zeros_plan-plan.result ≡ p
      → ZerosPlanned c.args.mask c.args.set c.args.frame.now p c.others-row.result c.zeros_plan-plan.new.runs
  planned e = zeros-told e c.zeros_plan-plan.ensures

  binary : binary_form (length c.args.frame.now) c.others-row.result ≡ form_of c.args.mask 5 c.args.frame.now
  binary =
      binary-form (length c.args.frame.now) c.args.frame.now c.args.mask refl
      (row-flags c.args.mask c.args.frame.now c.plus_zero.ensures c.others-row.ensures)

pub fit_plain-requires : goal.fit_plain-requires
fit_plain-requires c =
    let p = planned (goal.at.fit_plain-requires c).After-zeros_plan-plan c.in-Whole.is in
    record { frame_in = c.requires.frame_in; chosen = (p.chosen, whole-plain p.needs) }

pub returns-in-Whole : goal.returns-in-Whole
returns-in-Whole c = c.fit_plain.ensures

pub fit_binary-requires : goal.fit_binary-requires
fit_binary-requires c =
    let p = planned (goal.at.fit_binary-requires c).After-zeros_plan-plan c.in-Binary.is in
    (tool-bits p.chosen (binary (goal.at.fit_binary-requires c).After-zeros_plan-plan), p.chosen.small)

pub returns-in-Binary : goal.returns-in-Binary
returns-in-Binary c =
    let p = planned (goal.at.returns-in-Binary c).After-zeros_plan-plan c.in-Binary.is in
    tool-puts p.chosen (binary (goal.at.returns-in-Binary c).After-zeros_plan-plan) c.fit_binary.ensures

pub fit_rice-requires : goal.fit_rice-requires
fit_rice-requires c =
    let p = planned (goal.at.fit_rice-requires c).After-zeros_plan-plan c.in-Rice.is in
    let rice = rice-form (length c.args.frame.now) c.args.frame.now refl p.needs in
    record { rice_ready = (rice-ready p.needs, p.chosen.small); bits_value = tool-bits p.chosen rice }

pub returns-in-Rice : goal.returns-in-Rice
returns-in-Rice c =
    let p = planned (goal.at.returns-in-Rice c).After-zeros_plan-plan c.in-Rice.is in
    tool-puts p.chosen (rice-form (length c.args.frame.now) c.args.frame.now refl p.needs) c.fit_rice.ensures
