use native.Mathlib.Omega.{arith}
use mathlib.Core.Path.{sym, ◌∙◌}
use Rattle.recording_write.proofs.Cells.{length-frame, length-loss}
use Rattle.recording_write.proofs.given.length_in.Goals as goal

pub returns-then-c-lt-LOSS_FROM : goal.returns-then-c-lt-LOSS_FROM
returns-then-c-lt-LOSS_FROM c = c.from.ensures ∙ sym (length-frame c.args.c (omega (arith, c.if-c-lt-LOSS_FROM.true)))

pub returns-else-c-lt-LOSS_FROM : goal.returns-else-c-lt-LOSS_FROM
returns-else-c-lt-LOSS_FROM c = c.from-else-c-lt-LOSS_FROM.ensures ∙ sym (length-loss c.args.c (omega (arith, c.if-c-lt-LOSS_FROM.false)))
