use Rattle.std.proofs.Common.{◌*◌, take}
use Rattle.write_scan.specs.Looks.{marks_of}
use Rattle.write_scan.proofs.Rows.{Laid}
use Rattle.write_scan.proofs.others.Given as goal

abbrev pub invariant-loop-i : goal.invariant-loop-i
invariant-loop-i l = Laid (marks_of l.x 0 1 (take (40 * l.i) l.frame)) l.i l.words
