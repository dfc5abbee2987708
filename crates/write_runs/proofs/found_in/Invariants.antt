use Rattle.std.proofs.Common.{◌+◌, ◌*◌, take}
use Rattle.write_runs.specs.Tracks.{TracksAre}
use Rattle.write_runs.proofs.Values.{InSamples}
use Rattle.write_runs.proofs.found_in.Given as goal

abbrev pub invariant-loop-i : goal.invariant-loop-i
invariant-loop-i l = TracksAre l.v (take (40 * l.i) l.frame) (40 * l.i) l.t l.a l.b l.c

abbrev pub invariant-loop-w : goal.invariant-loop-w
invariant-loop-w l = InSamples l.v l.frame l.t l.a l.b l.c l.w (40 * (l.i + 1))

abbrev pub decreases-loop-w : goal.decreases-loop-w
decreases-loop-w l = l.w
