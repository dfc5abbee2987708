-- By the tool (Plainly).
use native.Mathlib.Omega.{arith}
use Rattle.read_bodies.proofs.Plainly.{plus-is, minus_is, constant-is, constant-short, octets-are, octets-short}
use Rattle.read_bodies.proofs.plain.plain_of.Goals.{then-tool-eq4, else-tool-eq4}
use Rattle.read_bodies.proofs.plain.plain_of.Goals as goal

pub returns-then-tool-eq2 : goal.returns-then-tool-eq2
returns-then-tool-eq2 c = plus-is _ _ _ _ c.if-tool-eq2.true c.plus_zero.ensures

pub returns-then-tool-eq3 : goal.returns-then-tool-eq3
returns-then-tool-eq3 c = minus_is _ _ _ _ c.if-tool-eq3.true c.minus_zero.ensures

pub returns-then-octets-behind : goal.returns-then-octets-behind
returns-then-octets-behind c =
    rw c.missing.ensures
    (elim c.if-tool-eq4.branch [
      | then-tool-eq4 w ↦ constant-short _ _ _ _ w.if-tool-eq4.true (omega (arith, w.behind-is))
      | else-tool-eq4 w ↦
          octets-short _ _ _ _ (λ i. (c.type_inv.octets i).fits) (omega (arith, w.if-tool-eq4.false)) (omega arith) (omega (arith, w.behind-is))
    ])

pub returns-then-tool-eq4-2 : goal.returns-then-tool-eq4-2
returns-then-tool-eq4-2 c =
    elim c.if-tool-eq4.branch [
      | then-tool-eq4 w ↦ constant-is _ _ _ _ (λ i. (c.type_inv.octets i).fits) c.if-tool-eq4-2.true (omega arith) (omega (arith, w.behind-is))
      | else-tool-eq4 w ↦ absurd (w.if-tool-eq4.false c.if-tool-eq4-2.true)
    ]

pub returns-else-tool-eq4-2 : goal.returns-else-tool-eq4-2
returns-else-tool-eq4-2 c =
    elim c.if-tool-eq4.branch [
      | then-tool-eq4 w ↦ absurd (c.if-tool-eq4-2.false w.if-tool-eq4.true)
      | else-tool-eq4 w ↦
          octets-are _ _ _ _ (λ i. (c.type_inv.octets i).fits) (omega (arith, w.if-tool-eq4.false)) (omega (arith, w.behind-is))
    ]
