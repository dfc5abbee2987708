use Rattle.std.proofs.Common.{◌≡◌, ◌+◌, ◌*◌, ap, ◌∙◌, arith}
use Rattle.rules.specs.Fractional.{of_digits}
use Rattle.rules.proofs.Octets.{below_all, below_at, below-take, below-drop}
use Rattle.write_fractional.proofs.Placing.{putting-able, putting-turn, putting-all, group-bits, group-at, group-within, groups-all}
use Rattle.write_fractional.proofs.grouping.put_groups.Goals as goal

pub group_of-requires : goal.group_of-requires
group_of-requires g c =
    let p = c.requires.packs in
    let is = group-at g.row.G _ c.loop-group.group-index c.args.digits.now c.group-item.result c.as_chunks.ensures.front
    c.as_chunks.ensures.front_len c.loop-group-test.true c.group-item.is in
    let small = below-take g.row.G (below-drop (g.row.G * c.loop-group.group-index) (below_all c.args.digits.now c.requires.by_index)) in
    (omega (arith, p.five), ((p.five, p.some, p.few), λ i. rw is (below_at small (omega (arith, p.some)) i)))

pub put-requires : goal.put-requires
put-requires g c =
    let p = c.requires.packs in
    let l = c.loop-group in
    let within = group-within p l.group-index (omega (arith, c.as_chunks.ensures.front_len, c.loop-group-test.true)) in
    let is = group-at g.row.G _ l.group-index c.args.digits.now c.group-item.result c.as_chunks.ensures.front
    c.as_chunks.ensures.front_len c.loop-group-test.true c.group-item.is in
    let fits = group-bits p c.args.digits.now (g.row.G * l.group-index) (below_all c.args.digits.now c.requires.by_index) within in
    record {
      able = putting-able p l.invariant c.requires.able (omega (arith, within, p.group));
      n_bound = (omega (arith, p.bits), rw (c.group_of.ensures, is) fits);
    }

pub loop-group-preserved : goal.loop-group-preserved
loop-group-preserved g c =
    let p = c.requires.packs in
    let l = c.loop-group in
    let within = group-within p l.group-index (omega (arith, c.as_chunks.ensures.front_len, c.loop-group-test.true)) in
    let is = group-at g.row.G _ l.group-index c.args.digits.now c.group-item.result c.as_chunks.ensures.front
    c.as_chunks.ensures.front_len c.loop-group-test.true c.group-item.is in
    let next : g.row.G * (l.group-index + 1) ≡ g.row.G * l.group-index + g.row.G = omega arith in
    rw next
    (putting-turn p l.invariant (omega (arith, within, p.group)) (c.group_of.ensures ∙ ap (of_digits c.args.r) is) c.put.ensures
    c.put.auto.out)

pub returns : goal.returns
returns g c =
    let p = c.requires.packs in
    putting-all p c.loop-group.invariant
    (groups-all p c.loop-group.group-index (omega (arith, c.as_chunks.ensures.front_len, c.loop-group-test.false)))
