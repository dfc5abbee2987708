use native.Mathlib.Omega.{arith}
use Rattle.recording_write.proofs.Way.{count-start, count_turn, count-done, count_long}
use Rattle.recording_write.proofs.sizes.most_octets.Goals as goal

pub loop-c-init : goal.loop-c-init
loop-c-init c = count-start c.args.cells.now

pub returns-then-sum-gt-LONGEST : goal.returns-then-sum-gt-LONGEST
returns-then-sum-gt-LONGEST c = count_long c.args.cells.now c.loop-c.invariant (omega arith)

pub loop-c-preserved : goal.loop-c-preserved
loop-c-preserved c =
    let n = c.item_most-sum.ensures in
    count_turn c.args.cells.now c.loop-c.invariant (omega arith) (omega arith) n.0 n.1

pub returns : goal.returns
returns c = count-done c.args.cells.now c.loop-c.invariant (omega arith)
