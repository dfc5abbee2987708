-- A frame written on its way, packing that stops before any frame, and packing in parts.
use Rattle.std.specs.Prelude.{ℕ, ◌+◌, ◌-◌, min, ◌≡◌, List, ◌++◌, length, take, drop}
use Rattle.rules.specs.declared.Refusal.{Refusal}
use Rattle.rules.specs.Refusals.{Ending}
use Rattle.std.specs.Prelude.{Ok, Err}
use Rattle.rules.specs.declared.WriteAnswer.{WriteAnswer}
use Rattle.rules.specs.Chooses.{write_one}
use Rattle.rules.specs.Calls.{at_start, Writes}
use Rattle.rules.specs.Walk.{longest}
use Rattle.tool_packing.specs.declared.packing.PackAnswer.{PackAnswer}
use Rattle.tool_packing.specs.Cuts.{sound_in}
use Rattle.tool_packing.specs.Packing.{stream_of, Packed, halted, pack_all}

-- the frame of `len` octets from `from` on is written, into the output from `at` on; what stands before that stays
pub record PutsFrame (sound : List ℕ) (from len law set at : ℕ) (out out' : List ℕ) (r : WriteAnswer) : Type 0 where
  pub rest : List ℕ
  pub writes : Writes (write_one len (take len (drop from sound)) law set (length out - at)) r (drop at out) rest
  pub lent : out' ≡ take at out ++ rest

pub record StopsAtOnce (why : Refusal) (r : PackAnswer) : Type 0 where
  pub end : r.end ≡ Err why
  pub frames : r.frames ≡ 0
  pub samples : r.samples ≡ 0
  pub octets : r.octets ≡ 0

-- what comes after what was packed so far: nothing where that was refused, else the part
abbrev pub packed_on : Ending → List ℕ → ℕ → ℕ → ℕ → ℕ → Packed
packed_on (Err why) part law set n room = halted (Err why)
packed_on (Ok _) part law set n room = pack_all part law set n room

-- the room of the next part: the page's, but no more than the longest stream has left
abbrev pub room_on : ℕ → ℕ → ℕ
room_on octets page = min page (longest - octets)

-- the next part of a sound, packed after what was packed so far: its octets stand at the page's start, the rest is as lent (p is
-- `packed_on`)
pub record PacksAfter (so_far : PackAnswer) (law set : ℕ) (p : Packed) (page page' : List ℕ) (r : PackAnswer) : Type 0 where
  pub end : r.end ≡ p.end
  pub frames : r.frames ≡ so_far.frames + length p.frames
  pub samples : r.samples ≡ so_far.samples + length (sound_in p.frames)
  pub octets : r.octets ≡ so_far.octets + length (stream_of law set p.frames)
  pub lent : page' ≡ at_start (stream_of law set p.frames) page

abbrev pub PackOn : PackAnswer → List ℕ → ℕ → ℕ → ℕ → List ℕ → List ℕ → PackAnswer → Type 0
PackOn so_far part law set n page page' r =
    PacksAfter so_far law set (packed_on so_far.end part law set n (room_on so_far.octets (length page))) page page' r
