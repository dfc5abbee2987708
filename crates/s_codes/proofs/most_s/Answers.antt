use native.Mathlib.Omega.{arith}
use borrow.Author.Tests.{ne_eqb}
use Rattle.rules.specs.Zeros.{codes_of}
use Rattle.s_codes.proofs.most_s.Goals as goal

pub returns-in-40 : goal.returns-in-40
unfolding codes_of
returns-in-40 c = (rw c.in-40.is, omega arith)

pub returns-in-80 : goal.returns-in-80
unfolding codes_of
returns-in-80 c = (rw c.in-80.is, omega arith)

pub returns-in_default : goal.returns-in_default
unfolding codes_of
returns-in_default c = let n = c.args.n in (rw (ne_eqb n 40 (omega arith), ne_eqb n 80 (omega arith)), omega arith)
