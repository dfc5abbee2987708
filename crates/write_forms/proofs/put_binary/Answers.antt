-- The first octet, then the row, by a pen that is new.
use mathlib.Core.Path.{refl, ◌∙◌}
use native.Mathlib.Omega.{arith}
use lib.ListN.{length}
use Rattle.rules.specs.First.{octet_for}
use Rattle.rules.proofs.Octets.{length-low_bits}
use Rattle.write_scan.specs.Rows.{flags_in}
use Rattle.write_bits.proofs.Putting.{puts_then, able-then}
use Rattle.write_forms.proofs.Values.{number-then}
use Rattle.write_forms.proofs.Form.{fresh-is, fresh-able, packed}
use Rattle.write_forms.proofs.put_binary.Goals as goal

pub put_prefix-requires : goal.put_prefix-requires
put_prefix-requires c =
    record {
      le_tool = (omega arith, omega arith);
      able = fresh-able (fresh-is c.new-pen.ensures)
          (omega (arith, c.requires.row_len_bound, number-then 8 (octet_for 5 c.args.n) (flags_in c.args.row.now) refl));
    }

pub put_row-requires : goal.put_row-requires
put_row-requires c =
    able-then (length (flags_in c.args.row.now)) (fresh-able (fresh-is c.new-pen.ensures) c.requires.row_len_bound) c.put_prefix.ensures
    c.put_prefix.auto.out
    (omega (arith, length-low_bits 8 (octet_for 5 c.args.n), number-then 8 (octet_for 5 c.args.n) (flags_in c.args.row.now) refl))

pub finish-requires : goal.finish-requires
finish-requires c =
    able-then 0 (fresh-able (fresh-is c.new-pen.ensures) c.requires.row_len_bound)
    (puts_then {b = flags_in c.args.row.now} c.put_prefix.ensures c.put_row.ensures)
    (c.put_row.auto.out ∙ c.put_prefix.auto.out) (omega arith)

pub returns : goal.returns
returns c =
    packed (fresh-is c.new-pen.ensures) (puts_then {b = flags_in c.args.row.now} c.put_prefix.ensures c.put_row.ensures) c.finish.ensures
