use Rattle.std.specs.Slice.Iter.{iter_rest}
use Rattle.write_fractional.proofs.Placing.{GroupTurn}
use Rattle.write_fractional.proofs.grouping.group_of.Given as goal

abbrev pub invariant-loop-d : goal.invariant-loop-d
invariant-loop-d g l =
    (goal.iterator-loop-d g).can_next l.d-iterator
    × (goal.iterator-loop-d g).is_finite l.d-iterator
    × GroupTurn l.group l.r (iter_rest l.d-iterator.iter) l.v
