use Rattle.std.proofs.Common.{rules, refl, ap, ◌∙◌, arith}
use Rattle.std.specs.Slice.Iter.{iter_rest}
use Rattle.rules.proofs.Octets.{below_all}
use Rattle.write_fractional.proofs.Placing.{group-none, group-turn, group-small}
use Rattle.write_fractional.proofs.grouping.group_of.Goals as goal

pub loop-d-init : goal.loop-d-init
loop-d-init g c =
    let is = ap (λ z. iter_rest z.iter) c.into_iter-d-iterator.ensures.into_iter_gives ∙ ap iter_rest c.rev-d-items.ensures.source
    ∙ c.iter.ensures.rest in
    (search rules, search rules, rw is (group-none c.args.group.now c.args.r))

pub overflow_mul-v : goal.overflow_mul-v
overflow_mul-v g c =
    let size = c.requires.sizes in
    let next = group-turn c.loop-d.invariant.2 c.in-Some.ensures.steps refl in
    let small = group-small next (below_all c.args.group.now c.requires.by_index) size.1 size.2 (omega arith) in
    omega arith

pub overflow_add-v : goal.overflow_add-v
overflow_add-v g c =
    let size = c.requires.sizes in
    let next = group-turn c.loop-d.invariant.2 c.in-Some.ensures.steps c.from.ensures in
    let small = group-small next (below_all c.args.group.now c.requires.by_index) size.1 size.2 (omega arith) in
    omega arith

pub loop-d-preserved : goal.loop-d-preserved
loop-d-preserved g c =
    (search rules, search rules, group-turn c.loop-d.invariant.2 c.in-Some.ensures.steps c.from.ensures)
