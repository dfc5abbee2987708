use borrow.Author.Tests.{eq-eqb, ne_eqb, le-leb, lt-leb}
use native.Mathlib.Omega.{arith}
use Rattle.first_octet.proofs.Base.{base-small}
use Rattle.first_octet.proofs.octet_for.Goals as goal

pub overflow_add-result : goal.overflow_add-result
overflow_add-result c = omega (arith, base-small c.args.n)

pub returns-then-t-ne7 : goal.returns-then-t-ne7
returns-then-t-ne7 c = rw (ne_eqb _ _ c.if-t-ne7.true) (omega arith)

pub overflow_add-result-then-n-lt240 : goal.overflow_add-result-then-n-lt240
overflow_add-result-then-n-lt240 c = omega (arith, base-small c.args.n)

pub returns-then-n-lt240 : goal.returns-then-n-lt240
returns-then-n-lt240 c = rw (eq-eqb _ _ c.if-t-ne7.false, lt-leb _ _ c.if-n-lt240.true) (omega arith)

pub returns-else-n-lt240 : goal.returns-else-n-lt240
returns-else-n-lt240 c = rw (eq-eqb _ _ c.if-t-ne7.false, le-leb _ _ c.if-n-lt240.false) (omega arith)

pub overflow_add-result-else-n-lt240 : goal.overflow_add-result-else-n-lt240
overflow_add-result-else-n-lt240 c = omega (arith, base-small c.args.n)
