use Rattle.std.proofs.Common.{arith, ap₂, ◌+◌}
use Rattle.write_measure.proofs.Weighing.{least-better, least-same, least-done, least-stop, no-fewer}
use Rattle.write_measure.proofs.least_s.Goals.{then-bits-best, else-bits-best}
use Rattle.write_measure.proofs.least_s.Goals as goal

pub returns-then-best-runs : goal.returns-then-best-runs
returns-then-best-runs c =
    least-stop c.loop-s.s c.loop-s.invariant (no-fewer c.args.extra.now c.args.runs.now c.loop-s.s c.if-best-runs.true)

pub loop-s-preserved : goal.loop-s-preserved
loop-s-preserved c =
    let l = c.loop-s in
    let is = ap₂ ◌+◌ c.from-in-loop-s.ensures c.run_bits-in-loop-s.ensures.0 in
    elim c.if-bits-best.branch [
      | then-bits-best w ↦ rw w.best-is
          (least-better l.s _ l.invariant (omega arith) is (omega (arith, c.from-in-loop-s.ensures, c.fits-extra l.s, c.run_bits-in-loop-s.ensures.1))
          w.if-bits-best.true)
      | else-bits-best w ↦ rw w.best-is (least-same l.s _ l.invariant (omega arith) is w.if-bits-best.false)
    ]

pub returns : goal.returns
returns c = least-done _ c.loop-s.invariant (omega arith)
