use Rattle.write_choice.proofs.Planning.{near_last, near-values}
use Rattle.write_choice.proofs.near.located_or.Goals as goal

pub returns-else-seven-eq7 : goal.returns-else-seven-eq7
returns-else-seven-eq7 c = near_last _ _ c.better-seven.ensures.tool c.if-seven-eq7.false

pub returns-then-seven-eq7 : goal.returns-then-seven-eq7
returns-then-seven-eq7 c = near-values _ _ c.better-seven.ensures.tool c.if-seven-eq7.true
