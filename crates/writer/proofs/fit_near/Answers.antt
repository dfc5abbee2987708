-- The plan as it was told apart, and its form (Planned).
use Prim.Native.Nat.{ℕ}
use mathlib.Core.Path.{◌≡◌, refl, ◌∙◌}
use mathlib.Core.List.{List}
use lib.ListN.{length}
use Rattle.rules.specs.Chooses.{form_of}
use Rattle.write_located.specs.declared.Located.{Located}
use Rattle.write_located.specs.Rows.{LocatedIs}
use Rattle.write_choice.specs.declared.plans.NearPlan.{NearPlan}
use Rattle.write_choice.specs.Plans.{NearPlanned}
use Rattle.write_forms.specs.Forms.{plan_form}
use Rattle.write_forms.proofs.Turns.{located-ready}
use Rattle.write_forms.proofs.Form.{located-form, located-seven}
use Rattle.writer.proofs.Planned.{near-told, tool-bits, tool-puts}
use Rattle.writer.proofs.fit_near.Goals.{After-near_plan-plan}
use Rattle.writer.proofs.fit_near.Goals as goal

pub near_plan-plan-requires : goal.near_plan-plan-requires
near_plan-plan-requires c = record { frame_in = c.requires.frame_in; left = c.requires.left }

-- the plan, as it was told apart
module _ (c : After-near_plan-plan) where
  planned : {p : NearPlan} → c.near_plan-plan.result ≡ p
      → NearPlanned c.args.mask c.args.set c.args.frame.now p c.near_plan-plan.new.a
      c.near_plan-plan.new.b c.near_plan-plan.new.c
  planned e = near-told e c.near_plan-plan.ensures

  -- the form of its values is the tool's
  values : {w : Located} {a b d : List ℕ} → LocatedIs c.args.mask c.args.frame.now w a b d
      → plan_form (length c.args.frame.now) w a b d ≡ form_of c.args.mask 7 c.args.frame.now
  values {w} {a} {b} {d} i =
      located-form (length c.args.frame.now) c.args.frame.now w a b d refl i ∙ located-seven c.args.mask c.args.frame.now

pub fit_plain-requires : goal.fit_plain-requires
fit_plain-requires c =
    let p = planned (goal.at.fit_plain-requires c).After-near_plan-plan c.in-Last.is in record { frame_in = c.requires.frame_in; chosen = (p.chosen, p.needs) }

pub returns-in-Last : goal.returns-in-Last
returns-in-Last c = c.fit_plain.ensures

pub fit_values-requires : goal.fit_values-requires
fit_values-requires c =
    let p = planned (goal.at.fit_values-requires c).After-near_plan-plan c.in-Values.is in
    record {
      located_ready = (located-ready p.needs, p.chosen.small);
      bits_value = tool-bits p.chosen (values (goal.at.fit_values-requires c).After-near_plan-plan p.needs);
    }

pub returns-in-Values : goal.returns-in-Values
returns-in-Values c =
    let p = planned (goal.at.returns-in-Values c).After-near_plan-plan c.in-Values.is in
    tool-puts p.chosen (values (goal.at.returns-in-Values c).After-near_plan-plan p.needs) c.fit_values.ensures
