use Rattle.write_measure.specs.Measures.{bits_with}
use Rattle.write_measure.proofs.Weighing.{Leasting}
use Rattle.write_measure.proofs.least_s.Given as goal

abbrev pub invariant-loop-s : goal.invariant-loop-s
invariant-loop-s l = Leasting (bits_with l.extra l.runs) l.most l.best l.s
