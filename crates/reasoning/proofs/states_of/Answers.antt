use Rattle.reasons.specs.Why.{states_of}
use Rattle.reasoning.proofs.states_of.Goals as goal

pub returns : goal.returns
unfolding states_of
returns c =
    rw (
      c.state_of.ensures,
      c.state_of-2.ensures,
      c.state_of-3.ensures,
      c.state_of-4.ensures,
      c.state_of-5.ensures,
      c.state_of-6.ensures,
      c.state_of-7.ensures,
      c.state_of-8.ensures,
    )
