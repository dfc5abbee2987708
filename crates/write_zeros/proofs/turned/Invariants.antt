use Rattle.std.proofs.Common.{◌≡◌, ◌++◌, map, take, drop}
use Rattle.write_zeros.proofs.Turning.{turn_word}
use Rattle.write_zeros.proofs.turned.Given as goal

abbrev pub invariant-loop-w : goal.invariant-loop-w
invariant-loop-w l = l.w-items ≡ map turn_word (take l.w-index l.row.words) ++ drop l.w-index l.row.words
