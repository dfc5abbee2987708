use native.Mathlib.Omega.{arith}
use Rattle.write_bits.proofs.Putting.{stored}
use Rattle.write_bits.proofs.store.Goals as goal

pub returns : goal.returns
returns c = stored _ _ _ (omega arith)
