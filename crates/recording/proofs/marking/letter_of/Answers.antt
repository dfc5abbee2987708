use borrow.Author.Tests.{eq-eqb, ne_eqb}
use Rattle.recording.proofs.marking.letter_of.Goals as goal

pub returns-then-law-eq0 : goal.returns-then-law-eq0
returns-then-law-eq0 c = rw (eq-eqb c.args.law 0 c.if-law-eq0.true)

pub returns-else-law-eq0 : goal.returns-else-law-eq0
returns-else-law-eq0 c = rw (ne_eqb c.args.law 0 c.if-law-eq0.false)
