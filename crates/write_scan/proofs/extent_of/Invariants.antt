use Rattle.write_scan.proofs.Extents.{ExtentTurn}
use Rattle.write_scan.proofs.extent_of.Given as goal

abbrev pub invariant-loop-x : goal.invariant-loop-x
invariant-loop-x l = ExtentTurn l.frame l.mask l.least l.greatest l.x-index
