use Prim.Native.Nat.{◌+◌, ◌-◌}
use mathlib.Core.Path.{◌≡◌}
use Rattle.walk.proofs.Keeping.{Keeping}
use Rattle.walk.proofs.keep_on.Given as goal

-- Each turn keeps one frame (Keeping); the measure is how many frames more are allowed.
abbrev pub invariant-frames : goal.invariant-frames
invariant-frames l =
    Keeping l.octets l.law l.set l.frames l.at l.initial.out l.out l.place l.to l.count × (l.place ≡ l.at + l.used)

abbrev pub decreases-frames : goal.decreases-frames
decreases-frames l = l.frames - l.count
