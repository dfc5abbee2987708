use Rattle.std.proofs.Common.{arith}
use Rattle.write_measure.proofs.Weighing.{width_small, width-one, width-more}
use Rattle.write_measure.proofs.width_of.Goals as goal

pub returns-then-d-le1 : goal.returns-then-d-le1
returns-then-d-le1 c = (width-one c.args.d c.if-d-le1.true, (omega arith, omega arith))

pub returns-else-d-le1 : goal.returns-else-d-le1
returns-else-d-le1 c =
    let log = c.ilog2.ensures in
    let small = width_small c.ilog2.result c.args.d (omega (arith, log.power_le)) c.requires in
    let is = width-more c.ilog2.result c.args.d c.if-d-le1.false log.power_le log.next_power_gt in
    (is.0, (omega arith, is.1))
