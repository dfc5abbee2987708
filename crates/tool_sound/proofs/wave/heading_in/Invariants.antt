use Prim.Native.Nat.{◌+◌, ◌-◌, ◌*◌, ◌≤◌}
use mathlib.Core.Path.{◌≡◌}
use Rattle.tool_sound.specs.Headings.{heading_of, chunks_from}
use Rattle.tool_sound.proofs.wave.heading_in.Given as goal

-- the heading is what is left of it; and a chunk takes at most 4,294,967,304 octets
abbrev pub invariant-chunks : goal.invariant-chunks
invariant-chunks l =
    (heading_of l.octets ≡ chunks_from (32 - l.counter) l.octets l.at l.seen) × (l.at ≤ 12 + l.counter * 4294967304)
