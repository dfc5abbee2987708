use Rattle.std.proofs.Common.{◌≡◌, length, arith}
use lib.Pow.{pow_pos}
use lib.Seq.{take-length}
use Rattle.write_scan.proofs.Rows.{words-few, word-small}
use Rattle.write_runs.proofs.Tracking.{row-track-none, track-end, in-first, in_one, in-last, in_place, one_at, below_next}
use Rattle.write_runs.proofs.runs_in.Goals as goal

pub loop-i-init : goal.loop-i-init
loop-i-init c = row-track-none c.words-words.result.now c.args.runs.now _ c.new-t.ensures.0 c.new-t.ensures.1 c.told-runs

pub loop-w-init : goal.loop-w-init
loop-w-init c =
    let i = c.loop-i.i in
    in-first c.words-words.result.now c.loop-i.runs c.loop-i.t i c.loop-i-test.true
    (word-small c.args.row.now c.words-words.ensures i c.loop-i-test.true) c.loop-i.invariant

pub overflow_sub-i : goal.overflow_sub-i
overflow_sub-i c =
    let h = in_place c.loop-w.invariant _ (omega arith) c.ilog2-top.ensures.power_le in omega (arith, h.0)

pub close-t-requires : goal.close-t-requires
close-t-requires c =
    let n = c.loop-w.invariant in
    let h = in_place n _ (omega arith) c.ilog2-top.ensures.power_le in
    let few = words-few c.args.row.now c.words-words.ensures in
    (n.track.few, (omega (arith, h.0, h.1), omega (arith, c.loop-i-test.true)))

pub overflow_sub-w : goal.overflow_sub-w
overflow_sub-w c = rw (one_at _ c.ilog2-top.ensures.bound) c.ilog2-top.ensures.power_le

pub loop-w-smaller : goal.loop-w-smaller
loop-w-smaller c =
    let log = c.ilog2-top.ensures in
    rw (one_at _ log.bound) (omega (arith, log.power_le, pow_pos c.ilog2-top.result))

pub loop-w-preserved : goal.loop-w-preserved
loop-w-preserved c =
    let n = c.loop-w.invariant in
    let log = c.ilog2-top.ensures in
    let p = in_place n _ (omega arith) log.power_le in
    let few = words-few c.args.row.now c.words-words.ensures in
    rw (one_at _ log.bound)
    (in_one n c.ilog2-top.result _ (omega arith) (omega (arith, c.loop-i-test.true)) log.power_le (below_next _ log.next_power_gt)
    (omega (arith, p.0)) c.close-t.ensures)

pub loop-i-preserved : goal.loop-i-preserved
loop-i-preserved c = in-last c.loop-w.invariant (omega arith) c.loop-w-test.false

pub end-requires : goal.end-requires
end-requires c =
    let k = c.loop-i.invariant in
    let few = words-few c.args.row.now c.words-words.ensures in
    (k.few, (omega (arith, k.behind, c.loop-i.auto.i-end), omega arith))

pub returns : goal.returns
returns c =
    let words = c.words-words.result.now in
    let few = words-few c.args.row.now c.words-words.ensures in
    let whole : c.loop-i.i ≡ length words = omega arith in
    let all = rw (whole, take-length words) at c.loop-i.invariant in
    rw c.words-words.ensures at (track-end all c.end.ensures (omega arith))
