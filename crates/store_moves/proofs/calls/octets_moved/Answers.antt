use native.Mathlib.Omega.{arith}
use Rattle.store_moves.proofs.Calling.{summing-start, summing-room, summing-few, summing-turn, summing-end}
use Rattle.store_moves.proofs.calls.octets_moved.Goals as goal

pub loop-r-init : goal.loop-r-init
loop-r-init c =
    summing-start c.args.table.now c.args.n c.args.size c.requires.0 c.requires.1
    (rw c.into_iter-r-iterator.ensures.into_iter_gives c.greetings-r-items.ensures)

pub overflow_add-moved : goal.overflow_add-moved
overflow_add-moved c =
    omega (
      arith,
      summing-few c.loop-r.invariant c.in-Some.ensures.steps _ c.moved_one-moved.ensures,
      summing-room c.loop-r.invariant c.in-Some.ensures.steps,
      c.requires.2,
    )

pub overflow_add-to : goal.overflow_add-to
overflow_add-to c = omega (arith, summing-room c.loop-r.invariant c.in-Some.ensures.steps, c.requires.2)

pub loop-r-preserved : goal.loop-r-preserved
loop-r-preserved c = summing-turn c.loop-r.invariant c.in-Some.ensures.steps c.moved_one-moved.ensures

pub returns : goal.returns
returns c = summing-end c.loop-r.invariant c.in-None.ensures.steps.0
