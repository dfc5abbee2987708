use Prim.Native.Nat.{◌*◌}
use mathlib.Core.Path.{◌≡◌}
use lib.Seq.{paste}
use Rattle.tool_sound.specs.Masters.{master_of}
use Rattle.tool_sound.proofs.masters.master_of.Given as goal

abbrev pub invariant-loop-i : goal.invariant-loop-i
invariant-loop-i l = l.out ≡ paste l.initial.out 0 (master_of l.law l.sound) (2 * l.i)
