use Prim.Native.Nat.{◌*◌, ◌≤◌}
use mathlib.Core.Bool.{true}
use mathlib.Core.Path.{◌≡◌}
use lib.ListN.{length}
use Rattle.tool_packing.specs.SoundParts.{part_size}
use Rattle.why.specs.Cut.{PartsIn}
use Rattle.why.proofs.all_parts.Given as goal

-- After i parts there are at most i times a part's samples, and no more frames; where more may come, they are whole parts, cut as `pack`
-- cuts them.
abbrev pub invariant-parts : goal.invariant-parts
invariant-parts l =
    (length l.part ≡ part_size)
    × (l.run.frames ≤ l.counter * part_size)
    × (l.run.samples ≤ l.counter * part_size)
    × (l.run.more ≡ true → PartsIn l.job.length l.run.frames l.run.samples)
