use mathlib.Core.Path.{◌∙◌}
use native.Mathlib.Omega.{arith}
use Rattle.store_tell.proofs.Telling.{greater, largest-start, largest-next, largest-turn, largest-end}
use Rattle.store_tell.proofs.largest_gap.Goals as goal

pub loop-r-init : goal.loop-r-init
loop-r-init c =
    largest-start c.args.table.now c.args.n c.args.size c.requires.0 c.requires.1
    (rw c.into_iter-r-iterator.ensures.into_iter_gives c.greetings-r-items.ensures)

pub overflow_sub-r : goal.overflow_sub-r
overflow_sub-r c = (largest-next c.loop-r.invariant c.in-Some.ensures.steps).0.above

pub overflow_add-at : goal.overflow_add-at
overflow_add-at c = omega (arith, (largest-next c.loop-r.invariant c.in-Some.ensures.steps).0.inside)

pub loop-r-preserved : goal.loop-r-preserved
loop-r-preserved c = largest-turn c.loop-r.invariant c.in-Some.ensures.steps (c.max-best.ensures ∙ greater _ _)

pub overflow_sub-size : goal.overflow_sub-size
overflow_sub-size c = c.loop-r.invariant.inside

pub returns : goal.returns
returns c = largest-end c.loop-r.invariant c.in-None.ensures.steps.0 c.max.ensures
