-- After i parts there are at most i times a part's samples, and no more frames; where more may come, they are whole parts, cut as `pack`
-- cuts them.
use mathlib.Core.Path.{◌∙◌}
use native.Mathlib.Omega.{arith}
use borrow.Author.Tests.{not-false}
use Rattle.why.proofs.Cutting.{begun}
use Rattle.why.proofs.all_parts.Goals as goal

pub parts-init : goal.parts-init
parts-init c = (c.requires, omega arith, omega arith, λ g. begun c.args.job.length)

pub next_part-requires : goal.next_part-requires
next_part-requires c =
    let i = c.parts.invariant in
    record { part_len = (i.0, omega (arith, i.1), omega (arith, i.2)); parts_in = i.3 (not-false _ c.if-not-run.false) }

pub parts-preserved : goal.parts-preserved
parts-preserved c =
    let e = c.in-Ok.ensures in
    let i = c.parts.invariant in
    (c.next_part.auto.part ∙ i.0, omega (arith, e.frames, i.1), omega (arith, e.samples, i.2), e.whole)
