use Rattle.std.proofs.Common.{◌*◌, length}
use Rattle.rules.specs.Fractional.{coding}
use Rattle.write_fractional.proofs.Placing.{Putting}
use Rattle.write_fractional.proofs.grouping.put_groups.Given as goal

abbrev pub invariant-loop-group : goal.invariant-loop-group
invariant-loop-group g l =
    Putting l.digits (coding l.r g.row.G l.w) (length l.digits) l.initial.out l.initial.pen l.out l.pen (g.row.G * l.group-index)
