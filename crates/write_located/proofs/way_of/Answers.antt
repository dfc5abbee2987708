use Rattle.write_located.proofs.Methods.{fewest, way-absent, way-binary, way-often, way-runs, way-listed, way-told, listed_small}
use Rattle.rules.proofs.Octets.{below_all}
use mathlib.Core.Path.{refl, sym}
use native.Mathlib.Omega.{arith}
use Rattle.write_located.proofs.way_of.Goals as goal

pub returns-then-count-eq0 : goal.returns-then-count-eq0
returns-then-count-eq0 c = way-told (λ flags e f. way-absent f.ones c.if-count-eq0.true) refl

pub returns-then-d-least : goal.returns-then-d-least
returns-then-d-least c = way-told
    (λ flags e f. way-binary f.ones c.if-count-eq0.false
    (fewest (sym e) c.least_s-least.ensures) _ f.size f.most c.if-d-least.true) refl

pub returns-then-count-gt4 : goal.returns-then-count-gt4
returns-then-count-gt4 c = way-told
    (λ flags e f. way-often f.ones c.if-count-eq0.false
    (fewest (sym e) c.least_s-least.ensures) _ f.size f.most
    c.if-d-least.false refl c.if-count-gt4.true) refl

pub overflow_mul-listed : goal.overflow_mul-listed
overflow_mul-listed c = omega (
  arith,
  listed_small {n = c.args.count}
      c.if-count-gt4.false c.width_of.ensures.1.0,
)

pub overflow_add-listed : goal.overflow_add-listed
overflow_add-listed c = omega (
  arith,
  listed_small {n = c.args.count}
      c.if-count-gt4.false c.width_of.ensures.1.0,
)

pub returns-then-least-listed : goal.returns-then-least-listed
returns-then-least-listed c = way-told
    (λ flags e f. way-runs f.ones c.if-count-eq0.false
    (fewest (sym e) c.least_s-least.ensures) _
    f.size f.most c.if-d-least.false
    refl c.if-count-gt4.false
    c.width_of.ensures.0 c.if-least-listed.true) refl

pub returns : goal.returns
returns c = way-told
    (λ flags e f. way-listed f.ones c.if-count-eq0.false
    (fewest (sym e) c.least_s-least.ensures)
    _ f.size f.most (below_all flags f.bits) c.if-d-least.false _
    c.if-count-gt4.false c.width_of.ensures.0
    c.if-least-listed.false) refl
