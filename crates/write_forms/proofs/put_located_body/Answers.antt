-- Row and flag in three bits, then the values.
use Prim.Native.Nat.{ℕ, ◌+◌, ◌*◌}
use mathlib.Core.Path.{◌≡◌}
use mathlib.Core.List.{List, ◌++◌}
use native.Mathlib.Omega.{arith}
use lib.ListN.{length}
use Rattle.rules.specs.Bits.{low_bits}
use Rattle.rules.proofs.Octets.{length-low_bits}
use Rattle.write_bits.proofs.Putting.{puts_then, puts-as, able-as, able-then}
use Rattle.write_forms.specs.Forms.{values_form_of, located_form_of}
use Rattle.write_forms.proofs.Values.{number-then}
use Rattle.write_forms.proofs.Form.{row-flag}
use Rattle.write_forms.proofs.put_located_body.Goals.{Start}
use Rattle.write_forms.proofs.put_located_body.Goals as goal

module _ (c : Start) where
  abbrev top : ℕ
  top = c.args.plan.row * 2 + c.args.plan.flag

  abbrev values : List ℕ
  values = values_form_of c.args.plan c.args.a.now c.args.b.now c.args.c.now

  says : low_bits 3 top ++ values ≡ located_form_of c.args.plan c.args.a.now c.args.b.now c.args.c.now
  says = row-flag c.args.plan.row c.args.plan.flag values c.requires.located_ready.flag

  size : 3 + length values ≡ length (located_form_of c.args.plan c.args.a.now c.args.b.now c.args.c.now)
  size = number-then 3 top values says

pub put-requires : goal.put-requires
put-requires c =
    record {
      able = able-as c.requires.able (omega (arith, size (goal.at.put-requires c).Start));
      n_bound = (omega arith, omega (arith, c.requires.located_ready.row, c.requires.located_ready.flag));
    }

pub put_values-requires : goal.put_values-requires
put_values-requires c =
    let put = c.put in
    record {
      values_ready = c.requires.located_ready.values;
      able = able-then (length (values_form_of c.args.plan c.args.a.now c.args.b.now c.args.c.now)) c.requires.able put.ensures
          put.auto.out (omega (arith, size (goal.at.put_values-requires c).Start, length-low_bits 3 (c.args.plan.row * 2 + c.args.plan.flag)));
    }

pub returns : goal.returns
returns c =
    puts-as (puts_then {b = (values_form_of c.args.plan c.args.a.now c.args.b.now c.args.c.now)} c.put.ensures c.put_values.ensures)
    (says (goal.at.returns c).Start)
