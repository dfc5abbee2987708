use Rattle.linear_masters.proofs.Values.{shifted, unit-a, unit-mu}
use Rattle.linear_masters.proofs.scaled.Goals as goal

pub returns-then-law-eq0 : goal.returns-then-law-eq0
returns-then-law-eq0 c = shifted c.args.law c.ranges.v (unit-a c.args.law c.if-law-eq0.true)

pub returns-else-law-eq0 : goal.returns-else-law-eq0
returns-else-law-eq0 c = shifted c.args.law c.ranges.v (unit-mu c.args.law c.if-law-eq0.false)
