use native.Mathlib.Omega.{arith}
use Rattle.store_rows.proofs.Coming.{rows_in-table}
use Rattle.store_rows.proofs.rows.greetings.Goals as goal

pub returns : goal.returns
returns c = rows_in-table c.args.table.now c.args.n (omega arith)
