use Prim.Native.Nat.{◌-◌, ◌≤◌}
use mathlib.Core.Path.{◌≡◌}
use lib.ListN.{length}
use Rattle.tool_playback.proofs.Onward.{Along}
use Rattle.tool_playback.proofs.playing.windows.Given as goal

-- Window after window (Onward); the measure is how far it is to the end.
abbrev pub invariant-loop-n : goal.invariant-loop-n
invariant-loop-n l =
    Along l.how l.done × (l.done.at ≤ l.b.size) × (length l.window ≡ length l.initial.window)

abbrev pub decreases-loop-n : goal.decreases-loop-n
decreases-loop-n l = l.b.size - l.done.at
