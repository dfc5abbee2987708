use Rattle.std.proofs.Common.{◌≡◌}
use lib.Seq.{paste}
use Rattle.settings.proofs.Telling.{fifths}
use Rattle.settings.proofs.tells.kept.Given as goal

abbrev pub invariant-loop-k : goal.invariant-loop-k
invariant-loop-k l = l.n-items ≡ paste l.initial.n-items 0 (fifths 8 0 l.rows) l.k
