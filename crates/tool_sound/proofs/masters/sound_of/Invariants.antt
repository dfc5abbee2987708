use mathlib.Core.Path.{◌≡◌}
use lib.Seq.{paste}
use Rattle.tool_sound.specs.Masters.{sound_of}
use Rattle.tool_sound.proofs.masters.sound_of.Given as goal

abbrev pub invariant-loop-i : goal.invariant-loop-i
invariant-loop-i l = l.out ≡ paste l.initial.out 0 (sound_of l.law l.master) l.i
