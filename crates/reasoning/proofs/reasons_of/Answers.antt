use mathlib.Core.Path.{refl}
use Rattle.reasoning.proofs.Winning.{reasons-are}
use Rattle.reasoning.proofs.reasons_of.Goals as goal

pub returns : goal.returns
returns c =
    reasons-are _ _ c.args.frame.now c.requires.0.some refl c.requires.0.few
    c.states_of-states.ensures c.winner_of-best.ensures c.tie_in.ensures
