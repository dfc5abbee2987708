use native.Mathlib.Omega.{arith}
use Rattle.reasons.proofs.put_by.Goals as goal

pub returns-then-tie : goal.returns-then-tie
returns-then-tie c = record {
  puts = rw c.if-tie.true c.put_word.ensures;
  most = omega
      (arith, c.put_word.ensures.place);
}

pub returns-else-tie : goal.returns-else-tie
returns-else-tie c = record {
  puts = rw c.if-tie.false c.put_word-else-tie.ensures;
  most = omega (arith, c.put_word-else-tie.ensures.place);
}
