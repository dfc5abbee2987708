use borrow.Author.Tests.{eq-eqb, ne_eqb}
use Rattle.rules.proofs.Signed.{plus-zero, minus-zero}
use Rattle.read_bodies.proofs.zero_of.Goals as goal

pub returns-then-flag-mark : goal.returns-then-flag-mark
returns-then-flag-mark c = rw (eq-eqb _ _ c.if-flag-mark.true, plus-zero)

pub returns-else-flag-mark : goal.returns-else-flag-mark
returns-else-flag-mark c = rw (ne_eqb _ _ c.if-flag-mark.false, minus-zero)
