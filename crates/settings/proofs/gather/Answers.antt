use mathlib.Core.Path.{sym, ap, ◌∙◌}
use lib.ListN.{length}
use native.Mathlib.Omega.{arith}
use Rattle.settings.proofs.State.{gathering-size, gathering-start, gathering-turn, gathering-end}
use Rattle.settings.proofs.gather.Goals as goal

pub loop-i-init : goal.loop-i-init
loop-i-init c = gathering-start _ _ c.requires.1

pub keep_row-k-requires : goal.keep_row-k-requires
keep_row-k-requires c = (omega (arith, c.loop-i.invariant.few), gathering-size c.loop-i.invariant)

pub loop-i-preserved : goal.loop-i-preserved
loop-i-preserved c =
    gathering-turn c.loop-i.invariant (omega arith)
    (rw c.row_at-r.ensures at c.keep_row-k.ensures)

pub shape_of-rows : goal.shape_of-rows
shape_of-rows c = gathering-size c.loop-i.invariant ∙ sym (ap length c.requires.1)

pub returns : goal.returns
returns c = gathering-end c.loop-i.invariant (omega arith)
