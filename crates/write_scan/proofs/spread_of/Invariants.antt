use Rattle.write_scan.proofs.Spreading.{SpreadTurn}
use Rattle.write_scan.proofs.spread_of.Given as goal

abbrev pub invariant-loop-x : goal.invariant-loop-x
invariant-loop-x l = SpreadTurn l.frame l.mask l.any l.all l.x-index
