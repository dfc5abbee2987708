use Prim.Native.Nat.{◌-◌}
use lib.ListN.{length}
use Rattle.tool_packing.proofs.Way.{Packing}
use Rattle.tool_packing.proofs.packing.frames.Given as goal

abbrev pub invariant-frames : goal.invariant-frames
invariant-frames l = Packing l.sound l.law l.set l.n l.initial.out l.out l.from l.at l.count

abbrev pub decreases-frames : goal.decreases-frames
decreases-frames l = length l.sound - l.from
