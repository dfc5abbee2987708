use Rattle.write_bits.proofs.Finishing.{FlushTurn}
use Rattle.write_bits.proofs.pen.Pen.flush.Given as goal

abbrev pub invariant-loop-held : goal.invariant-loop-held
invariant-loop-held l = FlushTurn l.initial.out l.self.word l.initial.held l.initial.at l.out l.held l.at

abbrev pub decreases-loop-held : goal.decreases-loop-held
decreases-loop-held l = l.held
