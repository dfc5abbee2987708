use native.Mathlib.Omega.{arith}
use Rattle.store_rows.proofs.Laying.{row_laid_lem}
use Rattle.store_rows.proofs.placing.lay_row.Goals as goal

pub returns : goal.returns
returns c = row_laid_lem c.args.table.now c.args.k c.args.r c.copy_over.ensures.after (omega arith)
