use Prim.Native.Nat.{◌<◌}
use mathlib.Core.Path.{ap}
use native.Mathlib.Omega.{arith}
use lib.ListN.{length}
use Rattle.std.proofs.Common.{rules}
use Rattle.store_rows.specs.Cells.{rows_in}
use Rattle.store_rows.proofs.Coming.{rows_in-few, rows_in-first}
use Rattle.store_rows.proofs.rows.RowsIterator.next.Goals as goal

pub returns-in_err-row-clause-steps : goal.returns-in_err-row-clause-steps
returns-in_err-row-clause-steps c =
    let few = rows_in-few c.args.self.now.cells.now c.in_err-row.ensures.cases in
    rw c.from_residual.ensures (few, few)

pub returns-clause-steps : goal.returns-clause-steps
returns-clause-steps c =
    let p = c.in_ok-row.ensures.cases in
    rows_in-first c.args.self.now.cells.now (omega (arith, p.2)) p.0 p.1

pub returns-clause-goes : goal.returns-clause-goes
returns-clause-goes c =
    let p = c.in_ok-row.ensures.cases in
    let e = ap length (rows_in-first c.args.self.now.cells.now (omega (arith, p.2)) p.0 p.1) in
    let fewer : length (rows_in c.in_ok-row.rest.now) < length (rows_in c.args.self.now.cells.now) = omega (arith, e) in
    search rules
