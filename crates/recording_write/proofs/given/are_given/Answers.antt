use native.Mathlib.Omega.{arith}
use mathlib.Core.Path.{sym, ◌∙◌}
use Rattle.recording_write.proofs.Way.{judge-start, judge-no-item, judge-no-samples, judge-turn, judge-done}
use Rattle.recording_write.proofs.given.are_given.Goals as goal

pub loop-c-init : goal.loop-c-init
loop-c-init c = judge-start _ _

pub returns-then-not-is_item : goal.returns-then-not-is_item
returns-then-not-is_item c =
    let i = c.is_item in
    let a = c.args in
    judge-no-item a.cells.now a.samples.now c.loop-c.invariant (omega arith) (sym i.ensures ∙ c.if-not-is_item.true)

pub returns-then-samples-from : goal.returns-then-samples-from
returns-then-samples-from c =
    let i = c.is_item in
    let a = c.args in
    let n = c.samples_in-n.ensures in
    let six = sym i.ensures ∙ c.if-not-is_item.false in
    judge-no-samples a.cells.now a.samples.now c.loop-c.invariant (omega arith) six (omega (arith, n))

pub loop-c-preserved : goal.loop-c-preserved
loop-c-preserved c =
    let i = c.is_item in
    let a = c.args in
    let n = c.samples_in-n.ensures in
    let six = sym i.ensures ∙ c.if-not-is_item.false in
    rw n (judge-turn a.cells.now a.samples.now c.loop-c.invariant (omega arith) six (omega (arith, n)))

pub returns : goal.returns
returns c =
    let a = c.args in
    judge-done a.cells.now a.samples.now c.loop-c.invariant (omega arith)
