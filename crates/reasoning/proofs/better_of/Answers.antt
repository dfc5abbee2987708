use Rattle.reasoning.proofs.Winning.{best-out, best-no, best-more, best-not-more}
use Rattle.reasoning.proofs.better_of.Goals as goal

pub returns-then-best-octets : goal.returns-then-best-octets
returns-then-best-octets c = best-more _ _ _ c.in-Fits.is c.if-best-octets.true

pub returns-in-Out : goal.returns-in-Out
returns-in-Out c = best-out _ _ c.in-Out.is

pub returns-in-No : goal.returns-in-No
returns-in-No c = best-no _ _ _ c.in-No.is

pub returns-else-best-octets : goal.returns-else-best-octets
returns-else-best-octets c = best-not-more _ _ _ c.in-Fits.is c.if-best-octets.false
