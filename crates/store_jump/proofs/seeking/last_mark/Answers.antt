use native.Mathlib.Omega.{arith}
use Rattle.store_jump.proofs.Halving.{found-start, found-half, found_turn, found-last}
use Rattle.store_jump.proofs.seeking.last_mark.Goals as goal

pub loop-low-init : goal.loop-low-init
loop-low-init c = found-start _ _ _ (omega arith)

pub overflow_add-low : goal.overflow_add-low
overflow_add-low c = omega (arith, c.loop-low.invariant.some, c.loop-low.invariant.inside)

pub half-s-requires : goal.half-s-requires
half-s-requires c = (omega arith, omega (arith, c.loop-low.invariant.inside))

pub loop-low-smaller : goal.loop-low-smaller
loop-low-smaller c = (found-half c.loop-low.invariant (omega arith) c.half-s.ensures).less

pub loop-low-preserved : goal.loop-low-preserved
loop-low-preserved c = found_turn c.loop-low.invariant (found-half c.loop-low.invariant (omega arith) c.half-s.ensures)

pub returns : goal.returns
returns c = (found-last c.loop-low.invariant (omega arith), omega (arith, c.loop-low.invariant.some, c.loop-low.invariant.inside))
