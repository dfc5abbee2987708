use Rattle.reasoning.proofs.Telling.{state-out, state-no, state-fits}
use mathlib.Core.Path.{sym, ◌∙◌}
use Rattle.reasoning.proofs.state_of.Goals as goal

pub returns-then-not-holds : goal.returns-then-not-holds
returns-then-not-holds c = state-out _ _ _ _ c.requires.frame_in.0.some (sym c.holds.ensures ∙ c.if-not-holds.true)

pub returns-in-Ok : goal.returns-in-Ok
returns-in-Ok c =
    state-fits _ _ _ _ c.requires.frame_in.0.some (sym c.holds.ensures ∙ c.if-not-holds.false) c.in-Ok.ensures c.octets_for.ensures

pub returns-in-Err : goal.returns-in-Err
returns-in-Err c =
    rw c.number.ensures
    (state-no _ _ _ _ c.requires.frame_in.0.some (sym c.holds.ensures ∙ c.if-not-holds.false) _ c.in-Err.ensures)
