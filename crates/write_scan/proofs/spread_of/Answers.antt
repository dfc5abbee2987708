use Rattle.write_scan.proofs.Spreading.{spread_none, spread-turn}
use Rattle.write_scan.proofs.spread_of.Goals as goal

pub loop-x-init : goal.loop-x-init
loop-x-init c = spread_none _ _

pub loop-x-preserved : goal.loop-x-preserved
loop-x-preserved c =
    let l = c.loop-x in
    spread-turn c.args.frame.now c.args.mask l.any l.all l.x-index c.requires.mask_bound c.loop-x-test.true
    (c.type_inv.frame l.x-index).fits l.invariant
