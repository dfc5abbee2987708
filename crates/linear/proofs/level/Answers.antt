use native.Mathlib.Omega.{arith}
use mathlib.Core.Path.{sym}
use Rattle.linear.proofs.Segments.{level-low}
use Rattle.linear.proofs.One.{level-shifted}
use Rattle.linear.proofs.level.Goals as goal

pub returns-then-c-lt16 : goal.returns-then-c-lt16
returns-then-c-lt16 c = sym (level-low c.args.c (omega arith))

pub returns-else-c-lt16 : goal.returns-else-c-lt16
returns-else-c-lt16 c = level-shifted c.args.c (omega arith) (omega arith)
