use mathlib.Core.Path.{sym, ◌∙◌}
use Rattle.mending.proofs.Answers.{stop-room, stop-other}
use Rattle.mending.proofs.stop_number.Goals as goal

pub returns-then-number : goal.returns-then-number
returns-then-number c = stop-room _ c.number_of-number.ensures (c.if-number.true ∙ c.number.ensures)

pub returns-else-number : goal.returns-else-number
returns-else-number c = stop-other _ c.number_of-number.ensures (λ e. c.if-number.false (e ∙ sym c.number.ensures))
