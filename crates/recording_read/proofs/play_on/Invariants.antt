use Prim.Native.Nat.{◌-◌}
use Rattle.recording_read.proofs.Playing.{Playing}
use Rattle.recording_read.proofs.play_on.Given as goal

-- Each turn takes one item (Playing); the measure is how many items more are allowed.
abbrev pub invariant-loop-count : goal.invariant-loop-count
invariant-loop-count l =
    Playing l.octets l.law l.set l.items l.at l.initial.out l.initial.cells l.out l.cells l.samples l.place l.to l.count

abbrev pub decreases-loop-count : goal.decreases-loop-count
decreases-loop-count l = l.items - l.count
