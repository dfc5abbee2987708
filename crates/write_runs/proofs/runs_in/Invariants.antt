use Rattle.std.proofs.Common.{◌+◌, ◌*◌, take}
use Rattle.write_scan.specs.Rows.{row_bits}
use Rattle.write_runs.specs.Tracks.{TrackIs}
use Rattle.write_runs.proofs.Tracking.{InWord}
use Rattle.write_runs.proofs.runs_in.Given as goal

abbrev pub invariant-loop-i : goal.invariant-loop-i
invariant-loop-i l = TrackIs (row_bits (take l.i l.words)) l.runs l.t (40 * l.i)

abbrev pub invariant-loop-w : goal.invariant-loop-w
invariant-loop-w l = InWord (row_bits (take (l.i + 1) l.words)) l.runs l.t l.w (40 * (l.i + 1))

abbrev pub decreases-loop-w : goal.decreases-loop-w
decreases-loop-w l = l.w
