use native.Mathlib.Omega.{arith}
use Rattle.store_rows.proofs.Hopping.{all-written}
use Rattle.store.proofs.place.Goals as goal

pub returns : goal.returns
returns c = (all-written c.args.block.now c.args.at c.copy_over.ensures.after (omega arith), c.insert.ensures)
