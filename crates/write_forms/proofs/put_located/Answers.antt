-- The first octet, then the body, by one pen.
use Prim.Native.Nat.{ℕ, ◌+◌}
use mathlib.Core.Path.{◌≡◌, ap, ◌∙◌}
use mathlib.Core.List.{List, ◌++◌}
use native.Mathlib.Omega.{arith}
use lib.ListN.{length, length-append}
use Rattle.rules.specs.First.{octet_for}
use Rattle.rules.specs.Zeros.{prefix}
use Rattle.rules.proofs.Octets.{length-low_bits}
use Rattle.write_bits.proofs.Putting.{puts_then, able-then}
use Rattle.write_forms.specs.Forms.{located_form_of}
use Rattle.write_forms.proofs.Form.{fresh-is, fresh-able, packed}
use Rattle.write_forms.proofs.put_located.Goals.{Start}
use Rattle.write_forms.proofs.put_located.Goals as goal

module _ (c : Start) where
  abbrev body : List ℕ
  body = located_form_of c.args.plan c.args.a.now c.args.b.now c.args.c.now

  sizes : length (prefix 7 c.args.n ++ body) ≡ 8 + length body
  sizes = length-append (prefix 7 c.args.n) body ∙ ap (λ (k : ℕ). k + length body) (length-low_bits 8 (octet_for 7 c.args.n))

pub put_prefix-requires : goal.put_prefix-requires
put_prefix-requires c =
    record {
      le_tool = (omega arith, omega arith);
      able = fresh-able (fresh-is c.new-pen.ensures) (omega (arith, c.requires.c_len_bound, sizes (goal.at.put_prefix-requires c).Start));
    }

pub put_located_body-requires : goal.put_located_body-requires
put_located_body-requires c =
    record {
      located_ready = c.requires.located_ready;
      able = able-then (length (located_form_of c.args.plan c.args.a.now c.args.b.now c.args.c.now))
          (fresh-able (fresh-is c.new-pen.ensures) c.requires.c_len_bound) c.put_prefix.ensures c.put_prefix.auto.out
          (omega (arith, length-low_bits 8 (octet_for 7 c.args.n), sizes (goal.at.put_located_body-requires c).Start));
    }

pub finish-requires : goal.finish-requires
finish-requires c =
    able-then 0 (fresh-able (fresh-is c.new-pen.ensures) c.requires.c_len_bound)
    (puts_then {b = located_form_of c.args.plan c.args.a.now c.args.b.now c.args.c.now} c.put_prefix.ensures c.put_located_body.ensures)
    (c.put_located_body.auto.out ∙ c.put_prefix.auto.out) (omega arith)

pub returns : goal.returns
returns c =
    packed (fresh-is c.new-pen.ensures)
    (puts_then {b = located_form_of c.args.plan c.args.a.now c.args.b.now c.args.c.now} c.put_prefix.ensures c.put_located_body.ensures)
    c.finish.ensures
