use Rattle.std.proofs.Common.{arith}
use Rattle.write_scan.proofs.Rows.{laid-none, laid-again}
use Rattle.write_scan.proofs.others.Goals as goal

pub loop-i-init : goal.loop-i-init
loop-i-init c = laid-none

pub loop-i-preserved : goal.loop-i-preserved
loop-i-preserved c =
    laid-again c.args.x _ c.args.frame.now (omega (arith, c.as_chunks.ensures.front_len))
    (omega (arith, c.as_chunks.ensures.front_len)) c.loop-i.invariant (rw c.as_chunks.ensures.front at c.word_of.ensures)
