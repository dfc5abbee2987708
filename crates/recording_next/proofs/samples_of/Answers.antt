use borrow.Author.Tests.{le-leb, lt-leb}
use Rattle.recording_next.proofs.samples_of.Goals as goal

pub returns-then-cell-ge-LOSS_FROM : goal.returns-then-cell-ge-LOSS_FROM
returns-then-cell-ge-LOSS_FROM c = rw (c.from.ensures, le-leb _ _ c.if-cell-ge-LOSS_FROM.true)

pub returns-else-cell-ge-LOSS_FROM : goal.returns-else-cell-ge-LOSS_FROM
returns-else-cell-ge-LOSS_FROM c = rw (c.from-else-cell-ge-LOSS_FROM.ensures, lt-leb _ _ c.if-cell-ge-LOSS_FROM.false)
