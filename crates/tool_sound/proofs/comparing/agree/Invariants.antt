use Rattle.tool_sound.specs.Agreeing.{agreeing}
use lib.ListN.{length, drop}
use Prim.Native.Nat.{◌+◌, ◌≤◌}
use mathlib.Core.Path.{◌≡◌}
use Rattle.tool_sound.proofs.comparing.agree.Given as goal

abbrev pub invariant-loop-i : goal.invariant-loop-i
invariant-loop-i l = (l.i ≤ length l.b) × (agreeing l.a l.b ≡ l.i + agreeing (drop l.i l.a) (drop l.i l.b))
