use Rattle.write_forms.proofs.Ways.{ListedTurn}
use Rattle.write_forms.proofs.put_listed.Given as goal

abbrev pub invariant-loop-run : goal.invariant-loop-run
invariant-loop-run l = ListedTurn l.initial.out l.initial.pen l.w l.runs l.out l.pen l.at l.run-index
