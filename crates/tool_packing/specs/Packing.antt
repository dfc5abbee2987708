-- A sound packed into a stream of frames: what its stream is, and how packing ends.
use Rattle.std.specs.Prelude.{ℕ, ◌-◌, ◌≡◌, List, [], ◌∷◌, ◌++◌, cond, not, length, ltb}
use Rattle.rules.specs.declared.Refusal.TheVariants.{Room, Length}
use Rattle.rules.specs.Refusals.{Ending}
use Rattle.std.specs.Prelude.{Err}
use Rattle.rules.specs.Refusals.{judged}
use Rattle.rules.specs.Tools.{writer_asks, is_length}
use Rattle.rules.specs.Bits.{pack}
use Rattle.rules.specs.Samples.{mask_of}
use Rattle.rules.specs.Walk.{longest}
use Rattle.rules.specs.Chooses.{chosen}
use Rattle.rules.specs.Calls.{at_start}
use Rattle.tool_packing.specs.declared.packing.PackAnswer.{PackAnswer}
use Rattle.tool_packing.specs.Cuts.{cuts, sound_in, end_of}

-- the octets of a frame: its chosen form
unfoldable pub form_octets : ℕ → ℕ → List ℕ → List ℕ
form_octets law set s = pack (chosen (mask_of law) set s).bits

-- frames one after another: their stream
unfoldable pub stream_of : ℕ → ℕ → List (List ℕ) → List ℕ
stream_of law set [] = []
stream_of law set (s ∷ frames) = form_octets law set s ++ stream_of law set frames

-- what was packed: the frames, and how it ended
pub record Packed : Type 0 where
  pub frames : List (List ℕ)
  pub end : Ending

abbrev pub halted : Ending → Packed
halted end = record { frames = []; end = end }

-- a frame, and then the rest
abbrev pub before : List ℕ → Packed → Packed
before s p = record { frames = s ∷ p.frames; end = p.end }

-- frame after frame, as far as the room goes: ROOM where the next form does not fit in what is left of it
unfoldable pub put_all : ℕ → ℕ → ℕ → List (List ℕ) → Ending → Packed
put_all law set room [] end = halted end
put_all law set room (s ∷ frames) end =
    cond (ltb room (length (form_octets law set s))) (halted (Err Room))
    (before s (put_all law set (room - length (form_octets law set s)) frames end))

-- "LAW, SET, then LENGTH"; then frame by frame from the start
unfoldable pub pack_all : List ℕ → ℕ → ℕ → ℕ → ℕ → Packed
pack_all sound law set n room =
    judged (writer_asks law set) (λ why. halted (Err why))
    (cond (not (is_length n)) (halted (Err Length))
    (put_all law set room (cuts n sound) (end_of n sound)))

-- what packing reports: the frames packed, the sound in them and their octets, which stand at the output's start; the rest is as lent
pub record Packs (law set : ℕ) (p : Packed) (r : PackAnswer) (out out' : List ℕ) : Type 0 where
  pub end : r.end ≡ p.end
  pub frames : r.frames ≡ length p.frames
  pub samples : r.samples ≡ length (sound_in p.frames)
  pub octets : r.octets ≡ length (stream_of law set p.frames)
  pub lent : out' ≡ at_start (stream_of law set p.frames) out

-- frame after frame, where the settings are not refused
abbrev pub PacksFrames : List ℕ → ℕ → ℕ → ℕ → List ℕ → List ℕ → PackAnswer → Type 0
PacksFrames sound law set n out out' r = Packs law set (put_all law set (length out) (cuts n sound) (end_of n sound)) r out out'

-- packing a sound; the output's length is the room
abbrev pub Pack : List ℕ → ℕ → ℕ → ℕ → List ℕ → List ℕ → PackAnswer → Type 0
Pack sound law set n out out' r = Packs law set (pack_all sound law set n (length out)) r out out'

-- packing a sound into a file that has nothing yet: it takes the octets of the longest stream, and `file` is what it has then
abbrev pub PackFile : List ℕ → ℕ → ℕ → ℕ → List ℕ → PackAnswer → Type 0
PackFile sound law set n file r = Packs law set (pack_all sound law set n longest) r [] file
