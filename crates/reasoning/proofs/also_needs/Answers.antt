use Rattle.reasoning.proofs.Winning.{also-same, also-other}
use Rattle.reasoning.proofs.also_needs.Goals as goal

pub returns-then-tool-best : goal.returns-then-tool-best
returns-then-tool-best c = also-same c.args.best c.args.tool c.args.state c.if-tool-best.true

pub returns-in-Out : goal.returns-in-Out
returns-in-Out c = also-other c.args.best c.args.tool c.args.state c.if-tool-best.false (rw c.in-Out.is)

pub returns-in-No : goal.returns-in-No
returns-in-No c = also-other c.args.best c.args.tool c.args.state c.if-tool-best.false (rw c.in-No.is)

pub returns-in-Fits : goal.returns-in-Fits
returns-in-Fits c =
    also-other c.args.best c.args.tool c.args.state c.if-tool-best.false
    (rw c.in-Fits.is)
