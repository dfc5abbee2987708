use Rattle.write_bits.proofs.Rice.{ZerosTurn}
use Rattle.write_bits.proofs.pen.Pen.put_zeros.Given as goal

abbrev pub invariant-loop-zeros : goal.invariant-loop-zeros
invariant-loop-zeros l = ZerosTurn l.initial.out l.v l.initial.self l.out l.self l.zeros

abbrev pub decreases-loop-zeros : goal.decreases-loop-zeros
decreases-loop-zeros l = l.zeros
