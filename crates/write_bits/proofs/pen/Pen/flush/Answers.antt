use Rattle.std.proofs.Common.{arith}
use Rattle.write_bits.proofs.Finishing.{flush-done, flush-turn}
use Rattle.write_bits.proofs.pen.Pen.flush.Goals as goal

pub loop-held-preserved : goal.loop-held-preserved
loop-held-preserved c = flush-turn _ _ c.loop-held.invariant (omega arith) (omega arith)

pub returns : goal.returns
returns c = flush-done (omega arith) c.loop-held.invariant
