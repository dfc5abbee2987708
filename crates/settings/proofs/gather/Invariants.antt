use Rattle.settings.proofs.State.{Gathering}
use Rattle.settings.proofs.gather.Given as goal

abbrev pub invariant-loop-i : goal.invariant-loop-i
invariant-loop-i l = Gathering l.state l.rows l.k l.i
