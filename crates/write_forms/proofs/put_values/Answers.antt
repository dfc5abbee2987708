-- One value, two or three, each put after the other (Turns).
use native.Mathlib.Omega.{arith}
use mathlib.Core.Path.{◌∙◌}
use lib.ListN.{length-append}
use Rattle.write_bits.proofs.Putting.{puts_then, puts-as, able-as, able-then}
use Rattle.write_forms.specs.Ways.{way_of}
use Rattle.write_forms.proofs.Turns.{values_one, values-two, values-three, first_fits, second_fits, third-fits}
use Rattle.write_forms.proofs.put_values.Goals as goal

pub put_value-requires : goal.put_value-requires
put_value-requires c =
    record { way_planned = c.requires.values_ready.first; able = able-as c.requires.able (first_fits c.args.plan c.args.a.now c.args.b.now c.args.c.now) }

pub returns-then-plan-eq1 : goal.returns-then-plan-eq1
returns-then-plan-eq1 c =
    let a = c.args in
    puts-as c.put_value.ensures (values_one a.plan a.a.now a.b.now a.c.now c.if-plan-eq1.true)

pub put_value-requires-2 : goal.put_value-requires-2
put_value-requires-2 c =
    let put = c.put_value in record {
      way_planned = c.requires.values_ready.second c.if-plan-eq1.false;
      able = able-then _ c.requires.able put.ensures put.auto.out
          (second_fits c.args.plan c.args.a.now c.args.b.now c.args.c.now c.if-plan-eq1.false);
    }

pub returns-then-plan-eq2 : goal.returns-then-plan-eq2
returns-then-plan-eq2 c =
    let a = c.args in
    puts-as (puts_then c.put_value.ensures c.put_value-2.ensures)
    (values-two a.plan a.a.now a.b.now a.c.now c.if-plan-eq2.true)

pub put_value-requires-3 : goal.put_value-requires-3
put_value-requires-3 c =
    let first = c.put_value in
    let second = c.put_value-2 in
    let k = third-fits c.args.plan c.args.a.now c.args.b.now c.args.c.now c.if-plan-eq1.false c.if-plan-eq2.false in
    let d = length-append (way_of c.args.plan.first c.args.a.now) (way_of c.args.plan.second c.args.b.now) in
    record {
      way_planned = c.requires.values_ready.third c.if-plan-eq1.false c.if-plan-eq2.false;
      able = able-then _ c.requires.able (puts_then first.ensures second.ensures) (second.auto.out ∙ first.auto.out) (omega (arith, k, d));
    }

pub returns : goal.returns
returns c =
    let a = c.args in
    puts-as (puts_then c.put_value.ensures (puts_then c.put_value-2.ensures
    c.put_value-3.ensures))
    (values-three a.plan a.a.now a.b.now a.c.now c.if-plan-eq1.false c.if-plan-eq2.false)
