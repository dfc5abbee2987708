use native.Mathlib.Omega.{arith}
use Rattle.linear_masters.proofs.Values.{raised, unit-a, unit-mu}
use Rattle.linear_masters.proofs.value_for.Goals as goal

pub overflow_mul-result : goal.overflow_mul-result
overflow_mul-result c =
    let a = c.args in
    (raised a.law a.octet (record { sfits = c.linear_of-v.type_inv }) c.linear_of-v.ensures
    (unit-a a.law c.if-law-eq0.true) (omega arith)).fits

pub returns-then-law-eq0 : goal.returns-then-law-eq0
returns-then-law-eq0 c =
    let a = c.args in
    (raised a.law a.octet (record { sfits = c.linear_of-v.type_inv }) c.linear_of-v.ensures
    (unit-a a.law c.if-law-eq0.true) (omega arith)).is

pub overflow_mul-result-else-law-eq0 : goal.overflow_mul-result-else-law-eq0
overflow_mul-result-else-law-eq0 c =
    let a = c.args in
    (raised a.law a.octet (record { sfits = c.linear_of-v.type_inv }) c.linear_of-v.ensures
    (unit-mu a.law c.if-law-eq0.false) (omega arith)).fits

pub returns-else-law-eq0 : goal.returns-else-law-eq0
returns-else-law-eq0 c =
    let a = c.args in
    (raised a.law a.octet (record { sfits = c.linear_of-v.type_inv }) c.linear_of-v.ensures
    (unit-mu a.law c.if-law-eq0.false) (omega arith)).is
