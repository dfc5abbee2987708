use native.Mathlib.Omega.{arith}
use borrow.Author.Tests.{eq-eqb, ne_eqb}
use Rattle.first_octet.specs.Answers.{entry_tells}
use Rattle.first_octet.proofs.first_octet.Goals as goal

pub returns-then-e-eq0 : goal.returns-then-e-eq0
unfolding entry_tells
returns-then-e-eq0 c = rw (eq-eqb _ _ c.if-e-eq0.true) at c.entry-e.ensures

pub returns-then-e-eq1 : goal.returns-then-e-eq1
unfolding entry_tells
returns-then-e-eq1 c = rw (ne_eqb _ _ c.if-e-eq0.false, eq-eqb _ _ c.if-e-eq1.true) at c.entry-e.ensures

pub overflow_mul-n : goal.overflow_mul-n
overflow_mul-n c = omega arith

pub returns-then-t-eq6 : goal.returns-then-t-eq6
unfolding entry_tells
returns-then-t-eq6 c =
    rw (ne_eqb _ _ c.if-e-eq0.false, ne_eqb _ _ c.if-e-eq1.false, eq-eqb _ _ c.if-t-eq6.true)
    at c.entry-e.ensures

pub returns-else-t-eq6 : goal.returns-else-t-eq6
unfolding entry_tells
returns-else-t-eq6 c =
    rw (ne_eqb _ _ c.if-e-eq0.false, ne_eqb _ _ c.if-e-eq1.false, ne_eqb _ _ c.if-t-eq6.false)
    at c.entry-e.ensures
