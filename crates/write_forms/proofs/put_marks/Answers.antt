use native.Mathlib.Omega.{arith}
use Rattle.write_bits.proofs.Putting.{puts_then, puts-as, able-as, able-then}
use Rattle.write_forms.proofs.Ways.{marks-closed, marks-open, marks-length}
use Rattle.write_forms.proofs.put_marks.Goals as goal

pub put_runs-requires : goal.put_runs-requires
put_runs-requires c =
    let k = marks-length c.args.count c.args.runs.now in
    record { s_bound = omega arith; able = able-as c.requires.able (omega arith) }

pub put_zeros-requires : goal.put_zeros-requires
put_zeros-requires c =
    let k = marks-length c.args.count c.args.runs.now in
    able-then _ c.requires.able c.put_runs.ensures c.put_runs.auto.out (omega arith)

pub returns-then-count-runs : goal.returns-then-count-runs
returns-then-count-runs c = puts-as (puts_then c.put_runs.ensures c.put_zeros.ensures) (marks-open c.args.count c.args.runs.now c.from.ensures)

pub returns-else-count-runs : goal.returns-else-count-runs
returns-else-count-runs c = puts-as c.put_runs.ensures (marks-closed c.args.count c.args.runs.now (omega arith))
