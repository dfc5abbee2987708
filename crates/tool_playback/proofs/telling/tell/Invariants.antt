use mathlib.Core.Path.{◌≡◌}
use lib.ListN.{length}
use Rattle.tool_playback.specs.Lines.{Follows}
use Rattle.tool_playback.proofs.telling.tell.Given as goal

-- Item after item, each alone in its part (Running); the measure is how many are left.
abbrev pub invariant-loop-left : goal.invariant-loop-left
invariant-loop-left l =
    Follows l.body l.how l.here × (length l.page ≡ 320) × (length l.one ≡ 1)

abbrev pub decreases-loop-left : goal.decreases-loop-left
decreases-loop-left l = l.left
