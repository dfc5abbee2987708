use Rattle.reasoning.proofs.tie_in.Goals as goal

pub returns : goal.returns
returns c =
    rw (
      c.or_needs.ensures,
      c.or_needs-two.ensures,
      c.or_needs-three.ensures,
      c.or_needs-four.ensures,
      c.or_needs-five.ensures,
      c.or_needs-six.ensures,
      c.or_needs-seven.ensures,
      c.or_needs-eleven.ensures,
    )
