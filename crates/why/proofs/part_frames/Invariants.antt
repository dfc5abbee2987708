use Prim.Native.Nat.{◌+◌, ◌-◌, ◌≤◌}
use lib.ListN.{length}
use Rattle.why.specs.Cut.{CutTo}
use Rattle.why.proofs.part_frames.Given as goal

-- Each turn takes one frame more of the part, the next that `pack` cuts; the measure is what is left of it.
abbrev pub invariant-loop-rt : goal.invariant-loop-rt
invariant-loop-rt l =
    (l.from ≤ length l.part) × (l.k ≤ l.run.frames + l.from) × (l.run.frames ≤ l.k)
    × CutTo l.job.length l.part l.from (l.k - l.run.frames)

abbrev pub decreases-loop-rt : goal.decreases-loop-rt
decreases-loop-rt l = length l.part - l.from
