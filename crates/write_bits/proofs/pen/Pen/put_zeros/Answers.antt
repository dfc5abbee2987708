use Rattle.std.proofs.Common.{arith}
use Rattle.write_bits.proofs.Rice.{zeros-then, zeros-done}
use Rattle.write_bits.proofs.pen.Pen.put_zeros.Goals as goal

pub loop-zeros-preserved : goal.loop-zeros-preserved
loop-zeros-preserved c = zeros-then c.loop-zeros.invariant 32 (omega arith) c.put.ensures c.put.auto.out

pub returns : goal.returns
returns c = zeros-done c.loop-zeros.invariant c.put-2.ensures c.put-2.auto.out
