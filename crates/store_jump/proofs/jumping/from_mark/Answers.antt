use native.Mathlib.Omega.{arith}
use Rattle.store_jump.proofs.Steps.{from-behind, from_on}
use Rattle.store_jump.proofs.jumping.from_mark.Goals as goal

pub returns-then-sample-before : goal.returns-then-sample-before
returns-then-sample-before c = from-behind _ _ _ _ _ _ (omega arith)

pub returns : goal.returns
returns c = from_on _ _ _ _ _ _ (omega arith) c.seek_on.ensures c.count_read.ensures
