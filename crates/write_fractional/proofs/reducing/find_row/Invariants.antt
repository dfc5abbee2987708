use Rattle.write_fractional.proofs.Keyed.{Finding}
use Rattle.write_fractional.proofs.reducing.find_row.Given as goal

abbrev pub invariant-loop-k : goal.invariant-loop-k
invariant-loop-k l = Finding l.least l.greatest l.minus l.count l.k
