use Rattle.std.proofs.Common.{get_or, arith}
use lib.Pow.{shr_le}
use Rattle.write_measure.proofs.Weighing.{bits_none, bits-turn}
use Rattle.write_measure.proofs.run_bits.Goals as goal

pub loop-v-init : goal.loop-v-init
loop-v-init c = (bits_none c.args.s c.args.runs.now, omega arith)

pub loop-v-preserved : goal.loop-v-preserved
loop-v-preserved c =
    let l = c.loop-v in
    let runs = c.args.runs.now in
    let fits = (c.type_inv.runs l.v-index).fits in (
      bits-turn c.args.s runs l.v-index l.zeros _ c.loop-v-test.true l.invariant.0 c.from-zeros.ensures,
      omega (arith, c.from-zeros.ensures, shr_le (get_or runs l.v-index 0) c.args.s),
    )
