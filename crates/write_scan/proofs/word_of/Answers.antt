use Rattle.std.proofs.Common.{◌<◌, length, arith}
use Rattle.write_scan.proofs.Rows.{word_none, word-again}
use Rattle.write_scan.proofs.word_of.Goals as goal

pub loop-y-init : goal.loop-y-init
loop-y-init c = word_none

pub loop-y-preserved : goal.loop-y-preserved
loop-y-preserved c =
    let more : c.loop-y.y-index < length c.args.chunk.now = omega arith in
    word-again _ _ _ c.loop-y.invariant more c.from.ensures
