use native.Mathlib.Omega.{arith}
use Rattle.store_rows.proofs.Changing.{inserted}
use Rattle.store_rows.proofs.placing.insert.Goals as goal

pub returns : goal.returns
returns c =
    let s = c.args in
    inserted s.table.now s.n s.i (omega arith) s.r (omega arith) (omega arith) c.copy_within.ensures.after c.lay_row.ensures
