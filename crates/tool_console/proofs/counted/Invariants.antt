use Rattle.std.proofs.Common.{length, ◌+◌, ◌-◌, ◌≡◌}
use Rattle.tool_console.proofs.counted.Given as goal

abbrev pub invariant-loop-size : goal.invariant-loop-size
invariant-loop-size l = length l.part ≡ length l.initial.part

abbrev pub decreases-loop-size : goal.decreases-loop-size
decreases-loop-size l = l.most + 1 - l.size
