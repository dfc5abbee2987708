-- Mark by mark, each behind those before it (Writing, Putting).
use native.Mathlib.Omega.{arith}
use Rattle.store_text.proofs.Writing.{putting-first, putting-fits, putting-turn, putting-end}
use Rattle.store_text.proofs.Writing.{mark_laid, marks-start, marks-left, marks-over}
use Rattle.store_text.proofs.put_marks.Goals as goal

pub loop-j-init : goal.loop-j-init
loop-j-init c = putting-first _ _ (marks-start _ _)

pub put_mark-end-requires : goal.put_mark-end-requires
put_mark-end-requires c =
    let a = c.args in
    let j = c.loop-j.j in
    let m = marks-left a.cells.now a.m j (omega arith) in
    (omega arith, putting-fits c.loop-j.invariant (mark_laid a.cells.now j) _ m (omega arith))

pub loop-j-preserved : goal.loop-j-preserved
loop-j-preserved c =
    let a = c.args in
    putting-turn c.loop-j.invariant (marks-left a.cells.now a.m c.loop-j.j (omega arith)) c.put_mark-end.ensures

pub shape_of-out : goal.shape_of-out
shape_of-out c = c.loop-j.invariant.puts.size

pub returns : goal.returns
returns c =
    let a = c.args in
    putting-end c.loop-j.invariant (marks-over a.cells.now a.m c.loop-j.j (omega arith))
