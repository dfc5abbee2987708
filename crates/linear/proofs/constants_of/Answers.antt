use borrow.Author.Tests.{eq-eqb, ne_eqb}
use Rattle.linear.proofs.constants_of.Goals as goal

pub returns-then-law-eq0 : goal.returns-then-law-eq0
returns-then-law-eq0 c = rw (eq-eqb _ _ c.if-law-eq0.true)

pub returns-else-law-eq0 : goal.returns-else-law-eq0
returns-else-law-eq0 c = rw (ne_eqb _ _ c.if-law-eq0.false)
