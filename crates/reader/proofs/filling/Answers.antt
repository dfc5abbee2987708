use Prim.Native.Nat.{◌*◌}
use mathlib.Core.Path.{◌≡◌, ◌∙◌}
use native.Mathlib.Omega.{arith}
use Rattle.rules.specs.Bits.{octets_for}
use Rattle.reader.proofs.Filled.{filled-turn, filled-wrong, filled-done}
use Rattle.reader.proofs.filling.Goals as goal

pub returns-then-bit_at-eq1 : goal.returns-then-bit_at-eq1
returns-then-bit_at-eq1 c =
    c.loop-at.invariant.1 ∙ filled-wrong c.args.octets.now (8 * octets_for c.args.end) c.loop-at.at
    (omega arith) (omega arith) (λ z. omega (arith, c.bit_at.ensures.0))

pub loop-at-preserved : goal.loop-at-preserved
loop-at-preserved c = (
  omega arith,
  c.loop-at.invariant.1 ∙ filled-turn c.args.octets.now (8 * octets_for c.args.end) c.loop-at.at
      (omega arith) (omega arith) (omega (arith, c.bit_at.ensures.0)),
)

pub returns : goal.returns
returns c =
    let e : c.loop-at.at ≡ 8 * octets_for c.args.end = omega arith in
    rw e at (c.loop-at.invariant.1 ∙ filled-done c.args.octets.now (8 * octets_for c.args.end) c.loop-at.at (omega arith))
