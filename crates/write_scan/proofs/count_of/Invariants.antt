use Rattle.std.proofs.Common.{◌≡◌, ◌≤◌, take}
use Rattle.write_scan.specs.Looks.{count_is}
use Rattle.write_scan.proofs.count_of.Given as goal

abbrev pub invariant-loop-y : goal.invariant-loop-y
invariant-loop-y l = (l.count ≤ l.y-index) × (l.count ≡ count_is l.x (take l.y-index l.frame))
