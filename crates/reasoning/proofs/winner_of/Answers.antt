use Rattle.reasoning.proofs.winner_of.Goals as goal

pub returns : goal.returns
returns c =
    rw (
      c.better_of.ensures,
      c.better_of-three.ensures,
      c.better_of-four.ensures,
      c.better_of-five.ensures,
      c.better_of-six.ensures,
      c.better_of-seven.ensures,
      c.better_of-eleven.ensures,
    )
