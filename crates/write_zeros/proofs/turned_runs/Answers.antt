use Rattle.write_zeros.proofs.Turning.{turns-none}
use Rattle.write_zeros.proofs.turned_runs.Goals as goal

pub returns-then-turn : goal.returns-then-turn
returns-then-turn c = rw c.if-turn.true (rw c.turned.ensures.says at c.runs_in.ensures)

pub returns-else-turn : goal.returns-else-turn
returns-else-turn c = rw (c.if-turn.false, turns-none _) c.runs_in-else-turn.ensures
