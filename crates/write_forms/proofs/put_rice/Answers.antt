-- Rice by a pen that is new.
use native.Mathlib.Omega.{arith}
use Rattle.write_bits.proofs.Putting.{able-then}
use Rattle.write_forms.proofs.Form.{fresh-is, fresh-able, packed}
use Rattle.write_forms.proofs.put_rice.Goals as goal

pub put_plus_minus-requires : goal.put_plus_minus-requires
put_plus_minus-requires c =
    record { rice_ready = c.requires.rice_ready; able = fresh-able (fresh-is c.new-pen.ensures) c.requires.runs_len_bound }

pub finish-requires : goal.finish-requires
finish-requires c =
    able-then 0 (fresh-able (fresh-is c.new-pen.ensures) c.requires.runs_len_bound) c.put_plus_minus.ensures
    c.put_plus_minus.auto.out (omega arith)

pub returns : goal.returns
returns c = packed (fresh-is c.new-pen.ensures) c.put_plus_minus.ensures c.finish.ensures
