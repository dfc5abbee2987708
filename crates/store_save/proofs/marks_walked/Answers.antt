-- Mark by mark, as the greeting is walked (Walking).
use mathlib.Core.Path.{◌∙◌}
use native.Mathlib.Omega.{arith}
use Rattle.store_save.proofs.Walking.{walking-first, walking-small, walking-more}
use Rattle.store_save.proofs.Walking.{walking-astray, walking_on, walking-turn, walking-end}
use Rattle.store_save.proofs.marks_walked.Goals as goal

pub loop-at-init : goal.loop-at-init
loop-at-init c = walking-first _ _ _ _

pub mark_is-requires : goal.mark_is-requires
mark_is-requires c =
    let p = c.requires in
    (omega (arith, p.1), omega (arith, walking-small _ _ _ _ c.loop-at.invariant p.1))

pub returns-in_err-i : goal.returns-in_err-i
returns-in_err-i c =
    let p = c.requires in
    c.from_residual.ensures ∙ walking-astray _ _ _ _ c.loop-at.invariant p.0 p.1 p.2 (omega arith) (c.in_err-i.ensures)

pub overflow_add-samples : goal.overflow_add-samples
overflow_add-samples c =
    let p = c.requires in
    let w = c.loop-at.invariant in
    omega (arith, walking-small _ _ _ _ w p.1, walking-more _ _ _ _ w c.walk_on-walked.ensures)

pub loop-at-smaller : goal.loop-at-smaller
loop-at-smaller c =
    let p = c.requires in
    omega (arith, walking_on _ _ _ _ c.loop-at.invariant p.0 p.1 p.2 (omega arith) c.walk_on-walked.ensures)

pub loop-at-preserved : goal.loop-at-preserved
loop-at-preserved c =
    let p = c.requires in
    walking-turn _ _ _ _ c.loop-at.invariant p.0 p.1 p.2 (omega arith) (c.in_ok-i.ensures) c.walk_on-walked.ensures

pub returns : goal.returns
returns c =
    let p = c.requires in
    walking-end _ _ _ _ c.loop-at.invariant p.0 p.1 p.2 (omega arith) c.no_mark.ensures
