use Rattle.write_scan.proofs.Extents.{extent-none, extent-turn}
use Rattle.write_scan.proofs.extent_of.Goals as goal

pub loop-x-init : goal.loop-x-init
loop-x-init c = extent-none _ _

pub loop-x-preserved : goal.loop-x-preserved
loop-x-preserved c =
    extent-turn c.loop-x.invariant c.loop-x-test.true c.line_of-p.ensures c.min-least.ensures c.max-greatest.ensures
