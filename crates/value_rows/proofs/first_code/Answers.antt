use borrow.Author.Tests.{ne_eqb}
use native.Mathlib.Omega.{arith}
use Rattle.rules.specs.Fractional.{first_code}
use Rattle.value_rows.proofs.first_code.Goals as goal

pub returns-in-40 : goal.returns-in-40
unfolding first_code
returns-in-40 c = rw c.in-40.is

pub returns-in-80 : goal.returns-in-80
unfolding first_code
returns-in-80 c = rw c.in-80.is

pub returns-in-160 : goal.returns-in-160
unfolding first_code
returns-in-160 c = rw c.in-160.is

pub returns-in-240 : goal.returns-in-240
unfolding first_code
returns-in-240 c = rw c.in-240.is

pub returns-in_default : goal.returns-in_default
unfolding first_code
returns-in_default c =
    let n = c.args.n in
    rw (ne_eqb n 40 (omega arith), ne_eqb n 80 (omega arith), ne_eqb n 160 (omega arith), ne_eqb n 240 (omega arith))
