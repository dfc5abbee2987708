use Rattle.std.proofs.Common.{ℕ, List, ◌≡◌, ◌*◌, ◌/◌, ◌<◌, ◌≤◌, length, arith}
use lib.Seq.{take-length}
use Rattle.write_scan.proofs.Rows.{chunk-at}
use Rattle.write_runs.proofs.Tracking.{one_at, below_next}
use Rattle.write_runs.proofs.Values.{tracks-none, tracks-end, samples-first, samples-last, samples-here, samples-next, samples-place}
use Rattle.write_runs.specs.declared.Track.{Track}
use Rattle.write_runs.specs.Tracks.{TrackIs}
use Rattle.write_runs.proofs.found_in.Goals.{After-loop-i}
use Rattle.write_runs.proofs.found_in.Goals as goal

pub loop-i-init : goal.loop-i-init
loop-i-init c = tracks-none c.args.v c.new.ensures c.new-2.ensures c.new-3.ensures c.told-a c.told-b c.told-c

pub loop-w-init : goal.loop-w-init
loop-w-init c =
    let i = c.loop-i.i in
    let frame = c.args.frame.now in
    let within : i < length frame / 40 = omega (arith, c.as_chunks.ensures.front_len, c.loop-i-test.true) in
    let at = rw (c.as_chunks.ensures.front, chunk-at (length frame / 40) i frame within) at c.word_of-w.ensures in
    samples-first c.args.v frame c.loop-i.t c.loop-i.a c.loop-i.b c.loop-i.c i c.word_of-w.result at c.loop-i.invariant

pub overflow_sub-i : goal.overflow_sub-i
overflow_sub-i c =
    let h = samples-place c.requires.apart (omega arith) c.loop-w.invariant c.ilog2-top.result c.ilog2-top.ensures.power_le in
    omega (arith, h)

pub mark-t-requires : goal.mark-t-requires
mark-t-requires c =
    let l = c.loop-w in
    let log = c.ilog2-top.ensures in
    let h = samples-place c.requires.apart (omega arith) l.invariant c.ilog2-top.result log.power_le in
    let n = c.as_chunks.ensures.front_len in record {
      i_bound = (omega (arith, n, c.loop-i-test.true), omega (arith, n, c.loop-i-test.true));
      tracks_are = samples-here c.requires.apart (omega arith) l.invariant c.ilog2-top.result _ log.power_le
          (below_next _ log.next_power_gt) (omega (arith, h));
    }

pub loop-w-preserved : goal.loop-w-preserved
loop-w-preserved c =
    let l = c.loop-w in
    let log = c.ilog2-top.ensures in
    let h = samples-place c.requires.apart (omega arith) l.invariant c.ilog2-top.result log.power_le in
    rw (one_at _ log.bound)
    (samples-next c.requires.apart (omega arith) l.invariant c.ilog2-top.result _ log.power_le (below_next _ log.next_power_gt)
    (omega (arith, h)) (omega (arith, c.as_chunks.ensures.front_len, c.loop-i-test.true)) c.mark-t.ensures)

pub loop-i-preserved : goal.loop-i-preserved
loop-i-preserved c = samples-last c.requires.apart (omega arith) c.loop-w.invariant c.loop-w-test.false

-- what the end of each track requires
module _ (c : After-loop-i) where
  pub ends : {runs : List ℕ} {t : Track} {done : List ℕ} → TrackIs done runs t (40 * c.loop-i.i)
      → (t.count ≤ t.start) × ((t.start ≤ length c.args.frame.now) × (length c.args.frame.now ≤ 320))
  ends k = (k.few, (omega (arith, k.behind, c.loop-i.auto.i-end, c.as_chunks.ensures.front_len), c.requires.size.0))

pub returns : goal.returns
returns c =
    let frame = c.args.frame.now in
    let whole : 40 * c.loop-i.i ≡ length frame = omega (arith, c.as_chunks.ensures.front_len) in
    let all = rw (whole, take-length frame) at c.loop-i.invariant in
    tracks-end all c.requires.size.0 c.end.ensures c.end-2.ensures c.end-3.ensures
