use Rattle.std.proofs.Common.{length, ◌-◌, ◌≡◌, ◌≤◌}
use Rattle.tool_sound.proofs.sounds.read_heading.Given as goal

abbrev pub invariant-loop-size : goal.invariant-loop-size
invariant-loop-size l = (l.n ≤ length l.space) × (length l.space ≡ length l.initial.space)

abbrev pub decreases-loop-size : goal.decreases-loop-size
decreases-loop-size l = length l.initial.space - l.n
