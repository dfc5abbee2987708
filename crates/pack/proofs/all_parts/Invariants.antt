use mathlib.Core.Path.{◌≡◌}
use lib.ListN.{length}
use Rattle.tool_packing.specs.SoundParts.{part_size}
use Rattle.pack.specs.Runs.{page_size, Stands, steps_left}
use Rattle.pack.proofs.all_parts.Given as goal

abbrev pub invariant-loop-run : goal.invariant-loop-run
invariant-loop-run l = Stands l.job l.run × (length l.part ≡ part_size) × (length l.page ≡ page_size)

abbrev pub decreases-loop-run : goal.decreases-loop-run
decreases-loop-run l = steps_left l.run
