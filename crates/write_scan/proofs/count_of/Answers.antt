use Rattle.std.proofs.Common.{◌∙◌, refl, arith}
use Rattle.rules.specs.Chooses.{count_of}
use Rattle.write_scan.proofs.Looking.{count-more}
use Rattle.write_scan.proofs.Rows.{test_byte, byte_small}
use Rattle.write_scan.proofs.count_of.Goals as goal

pub loop-y-init : goal.loop-y-init
unfolding count_of
loop-y-init c = (omega arith, refl)

pub loop-y-preserved : goal.loop-y-preserved
loop-y-preserved c =
    let l = c.loop-y in (
      omega (arith, byte_small _ c.from-count.ensures),
      count-more c.args.frame.now l.y-index c.loop-y-test.true _ l.invariant.1 (c.from-count.ensures ∙ test_byte _),
    )
