-- Counted mark by mark (Writing, Counting).
use native.Mathlib.Omega.{arith}
use Rattle.store_text.proofs.Writing.{counting-first, counting-turn, counting-end}
use Rattle.store_text.proofs.Writing.{mark_laid, marks-start, marks-left, marks-over}
use Rattle.store_text.proofs.marks_octets.Goals as goal

pub loop-j-init : goal.loop-j-init
loop-j-init c = counting-first (marks-start _ _)

pub overflow_add-sum : goal.overflow_add-sum
overflow_add-sum c = omega (arith, c.loop-j.invariant.few, c.mark_octets-sum.ensures.most)

pub loop-j-preserved : goal.loop-j-preserved
loop-j-preserved c =
    let a = c.args in
    let r = c.mark_octets-sum.ensures in
    let m = marks-left a.cells.now a.m c.loop-j.j (omega arith) in
    counting-turn (mark_laid a.cells.now c.loop-j.j) c.loop-j.invariant m r.value r.most (omega arith)

pub returns : goal.returns
returns c =
    let a = c.args in
    let e = counting-end c.loop-j.invariant (marks-over a.cells.now a.m c.loop-j.j (omega arith)) in
    record { value = e; most = omega (arith, c.loop-j.invariant.few) }
