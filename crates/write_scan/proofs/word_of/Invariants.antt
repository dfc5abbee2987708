use Rattle.std.proofs.Common.{take}
use Rattle.write_scan.specs.Rows.{Gathers}
use Rattle.write_scan.specs.Looks.{marks_of}
use Rattle.write_scan.proofs.word_of.Given as goal

abbrev pub invariant-loop-y : goal.invariant-loop-y
invariant-loop-y l = Gathers (marks_of l.x 0 1 (take l.y-index l.chunk)) l.y-index l.v
