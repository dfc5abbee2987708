-- The pages are large enough; what stands before is the caller's.
use native.Mathlib.Omega.{arith}
use Rattle.tool_playback.proofs.playing.play.Goals as goal

pub parts-requires : goal.parts-requires
parts-requires c = let p = c.requires in (p.0, omega arith, omega arith, p.1)
