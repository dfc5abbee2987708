use native.Mathlib.Omega.{arith}
use mathlib.Core.Path.{sym, ◌∙◌}
use Rattle.recording_write.proofs.Cells.{taken-frame, taken-loss}
use Rattle.recording_write.proofs.given.samples_in.Goals as goal

pub returns-then-c-lt-LOSS_FROM : goal.returns-then-c-lt-LOSS_FROM
returns-then-c-lt-LOSS_FROM c = c.from.ensures ∙ sym (taken-frame c.args.c (omega (arith, c.if-c-lt-LOSS_FROM.true)))

pub returns-else-c-lt-LOSS_FROM : goal.returns-else-c-lt-LOSS_FROM
returns-else-c-lt-LOSS_FROM c = sym (taken-loss c.args.c (omega (arith, c.if-c-lt-LOSS_FROM.false)))
