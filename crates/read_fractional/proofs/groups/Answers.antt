use native.Mathlib.Omega.{arith}
use Rattle.read_bits.proofs.Told.{told, refused, handed_on}
use Rattle.read_fractional.proofs.Turning.{filling-none, packs-small, filling-turn, filling-refused, filling-place}
use Rattle.read_fractional.proofs.Turning.{filling-all}
use Rattle.rules.proofs.Fractional.{group-fits}
use Rattle.read_fractional.proofs.groups.Goals as goal

pub fifth-most-requires : goal.fifth-most-requires
fifth-most-requires c = (c.requires.packs.some, c.requires.packs.few)

pub loop-filled-init : goal.loop-filled-init
loop-filled-init c = filling-none _ _ _ _ c.requires.packs (omega arith)

pub number-requires : goal.number-requires
number-requires c =
    let l = c.loop-filled.invariant in
    let p = c.requires.packs in
    (omega (arith, l.near, p.room), omega (arith, p.bits))

pub returns-in_err-v : goal.returns-in_err-v
returns-in_err-v c =
    rw (handed_on c.from_residual.result c.from_residual.ensures.1)
    (filling-refused c.requires.packs (omega arith) c.loop-filled.invariant (omega arith)
    (refused c.number.ensures c.in_err-v.was))

pub returns-then-most-v : goal.returns-then-most-v
returns-then-most-v c =
    let v = told c.number.ensures c.in_ok-v.was in
    let most = c.fifth-most.ensures in
    filling-place c.requires.packs (omega arith) c.loop-filled.invariant (omega arith) v.says (omega (arith, most))

pub lay-requires : goal.lay-requires
lay-requires c =
    let p = c.requires.packs in
    let t = c.loop-filled.invariant in
    let f = group-fits t.more _ 5 c.args.n t.left (omega arith) in
    let most = c.fifth-most.ensures in
    (omega (arith, p.room), packs-small p (omega (arith, most)), p.some, p.few, t.room, c.requires.at_bound.2)

pub overflow_add-filled : goal.overflow_add-filled
overflow_add-filled c =
    let t = c.loop-filled.invariant in
    let f = group-fits t.more _ 5 c.args.n t.left (omega arith) in
    omega (arith, c.requires.packs.room)

pub loop-filled-smaller : goal.loop-filled-smaller
loop-filled-smaller c = omega arith

pub loop-filled-preserved : goal.loop-filled-preserved
loop-filled-preserved c =
    let v = told c.number.ensures c.in_ok-v.was in
    let most = c.fifth-most.ensures in
    filling-turn c.requires.packs (omega arith) c.loop-filled.invariant (omega arith) v.says (omega (arith, most)) v.next
    c.lay.ensures.0 c.lay.ensures.1

pub returns : goal.returns
returns c = filling-all c.requires.packs (omega arith) c.loop-filled.invariant (omega arith)
