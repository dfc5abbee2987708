use Prim.Native.Nat.{◌-◌}
use mathlib.Core.Path.{◌≡◌}
use lib.ListN.{length}
use Rattle.tool_playback.proofs.Running.{Going}
use Rattle.tool_playback.proofs.playing.parts.Given as goal

-- Each turn uses one part more (Running); the measure is how far it is to the end.
abbrev pub invariant-loop-to : goal.invariant-loop-to
invariant-loop-to l =
    Going l.body l.how (length l.initial.page) 192 l.page l.cells (record { at = l.at; items = l.items; samples = l.samples }) l.lost
    × (length l.master ≡ length l.initial.master)

abbrev pub decreases-loop-to : goal.decreases-loop-to
decreases-loop-to l = length l.body - l.at
