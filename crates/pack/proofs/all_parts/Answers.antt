use mathlib.Core.Path.{◌∙◌}
use Rattle.pack.proofs.all_parts.Goals as goal

pub loop-run-smaller : goal.loop-run-smaller
loop-run-smaller c = c.in-Ok.ensures.less

pub loop-run-preserved : goal.loop-run-preserved
loop-run-preserved c =
    let i = c.loop-run.invariant in
    let n = c.next_part in
    (c.in-Ok.ensures.stands, n.auto.part ∙ i.1, n.auto.page ∙ i.2)
