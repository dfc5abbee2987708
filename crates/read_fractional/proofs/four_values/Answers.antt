use mathlib.Core.Path.{refl}
use native.Mathlib.Omega.{arith}
use Rattle.read_bits.proofs.Told.{told, refused, handed_on}
use Rattle.read_fractional.proofs.Turning.{filling-none, filling-turn, filling-refused}
use Rattle.read_fractional.proofs.Turning.{filling-all, packs-four, laid_one, set_room}
use Rattle.read_fractional.proofs.four_values.Goals as goal

pub loop-filled-init : goal.loop-filled-init
loop-filled-init c = filling-none _ _ _ _ (packs-four _ (omega arith)) (omega arith)

pub number-requires : goal.number-requires
number-requires c = omega (arith, c.loop-filled.invariant.near)

pub returns-in_err-v : goal.returns-in_err-v
returns-in_err-v c =
    rw (handed_on c.from_residual.result c.from_residual.ensures.1)
    (filling-refused (packs-four _ (omega arith)) (omega arith) c.loop-filled.invariant (omega arith)
    (refused c.number.ensures c.in_err-v.was))

pub bounds-values-v : goal.bounds-values-v
bounds-values-v c =
    let v = told c.number.ensures c.in_ok-v.was in
    omega (arith, v.value)

pub bounds-samples-filled : goal.bounds-samples-filled
bounds-samples-filled c = omega (arith, c.loop-filled.invariant.room)

pub loop-filled-preserved : goal.loop-filled-preserved
loop-filled-preserved c =
    let l = c.loop-filled in
    let t = l.invariant in
    let v = told c.number.ensures c.in_ok-v.was in
    filling-turn (packs-four c.args.n (omega arith)) (omega arith) t (omega arith) v.says (omega (arith, v.value)) v.next
    (laid_one c.args.values.now l.samples {filled = l.filled} (omega (arith, t.room)) (omega (arith, v.value)) refl)
    (set_room l.samples l.filled _ t.room (omega arith))

pub returns : goal.returns
returns c = filling-all (packs-four _ (omega arith)) (omega arith) c.loop-filled.invariant (omega arith)
