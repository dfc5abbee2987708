use Rattle.reasoning.proofs.empty_reasons.Goals as goal

pub returns : goal.returns
returns c =
    rw (
      c.empty_state.ensures,
      c.empty_state-2.ensures,
      c.empty_state-3.ensures,
      c.empty_state-4.ensures,
      c.empty_state-5.ensures,
      c.empty_state-6.ensures,
      c.empty_state-7.ensures,
      c.empty_state-8.ensures,
    )
