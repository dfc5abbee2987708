use Rattle.write_bits.proofs.Rice.{RunsTurn}
use Rattle.write_bits.proofs.pen.Pen.put_runs.Given as goal

abbrev pub invariant-loop-v : goal.invariant-loop-v
invariant-loop-v l = RunsTurn l.initial.out l.initial.self l.s l.runs l.out l.self l.v-index
