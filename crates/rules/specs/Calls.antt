-- The contract of each public call: what its answer and the lent output are, for all inputs.
-- `out` is the output as lent, `out'` as the call leaves it; the output's length is the room.
use Rattle.std.specs.Prelude.{ℕ, ◌-◌, ◌≡◌, List, [], ◌++◌, length, drop, replicate}
use Rattle.rules.specs.Refusals.{Ending}
use Rattle.std.specs.Prelude.{Ok, Err}
use Rattle.rules.specs.declared.Frame.{Frame}
use Rattle.rules.specs.declared.ReadAnswer.{ReadAnswer}
use Rattle.rules.specs.declared.WalkAnswer.{WalkAnswer}
use Rattle.rules.specs.declared.WriteAnswer.{WriteAnswer}
use Rattle.rules.specs.Refusals.{refusal_tool}
use Rattle.rules.specs.Bits.{octets_for, pack}
use Rattle.rules.specs.Reading.{Read, whole, refuse}
use Rattle.rules.specs.Frame.{Found, octets_used, read_one}
use Rattle.rules.specs.Chooses.{Write, wrote, declined, write_one}
use Rattle.rules.specs.Walk.{Walked, walk_all, octets_kept, samples_kept}

-- what a reading reports: "A refused single call writes nothing and reports 0 samples, 0 octets used, 0 bits and tool 0, save that TOOL
-- gives the tool."
abbrev pub read_end : Read Found → Ending
read_end (whole f i) = Ok tt
read_end (refuse w at) = Err w

abbrev pub read_samples : Read Found → List ℕ
read_samples (whole f i) = f.samples
read_samples (refuse w at) = []

abbrev pub read_octets : Read Found → ℕ
read_octets (whole f i) = octets_used f
read_octets (refuse w at) = 0

abbrev pub read_bits : Read Found → ℕ
read_bits (whole f i) = f.bits
read_bits (refuse w at) = 0

abbrev pub read_tool : Read Found → ℕ
read_tool (whole f i) = f.tool
read_tool (refuse w at) = refusal_tool w

-- Document 02, R-7: "Every refusal from 1 to 9 gives one bit, counted from 0 at the frame's start .. 0 for PREFIX, TOOL and ROOM."
-- LAW and SET, and an accepted frame, give 0.
abbrev pub read_bit : Read Found → ℕ
read_bit (whole f i) = 0
read_bit (refuse w at) = at

-- these samples at the start, the rest as lent
abbrev pub at_start : List ℕ → List ℕ → List ℕ
at_start s out = s ++ drop (length s) out

-- "A frame holds up to 320 samples, all set before reading to 00, those past its length staying 00"
pub record IsFrame (s : List ℕ) (f : Frame) : Type 0 where
  pub len : f.len ≡ length s
  pub samples : f.samples ≡ s ++ replicate (320 - length s) 0

pub record Reads (found : Read Found) (r : ReadAnswer) (out out' : List ℕ) : Type 0 where
  pub end : r.end ≡ read_end found
  pub frame : IsFrame (read_samples found) r.frame
  pub octets : r.octets ≡ read_octets found
  pub bits : r.bits ≡ read_bits found
  pub tool : r.tool ≡ read_tool found
  pub bit : r.bit ≡ read_bit found
  pub lent : out' ≡ at_start (read_samples found) out

-- reading one frame
abbrev pub ReadFrame : List ℕ → ℕ → ℕ → List ℕ → List ℕ → ReadAnswer → Type 0
ReadFrame octets law set out out' r = Reads (read_one octets law set (length out)) r out out'

-- what a writing reports
abbrev pub write_end : Write → Ending
write_end (wrote w) = Ok tt
write_end (declined w) = Err w

abbrev pub written_bits : Write → List ℕ
written_bits (wrote w) = w.bits
written_bits (declined w) = []

abbrev pub write_tool : Write → ℕ
write_tool (wrote w) = w.tool
write_tool (declined w) = 0

pub record Writes (written : Write) (r : WriteAnswer) (out out' : List ℕ) : Type 0 where
  pub end : r.end ≡ write_end written
  pub octets : r.octets ≡ octets_for (length (written_bits written))
  pub bits : r.bits ≡ length (written_bits written)
  pub tool : r.tool ≡ write_tool written
  pub lent : out' ≡ at_start (pack (written_bits written)) out

-- writing one frame: its length, and its samples up to it. "What a caller left past it changes nothing"
abbrev pub WriteFrame : Frame → ℕ → ℕ → List ℕ → List ℕ → WriteAnswer → Type 0
WriteFrame f law set out out' r = Writes (write_one f.len f.samples law set (length out)) r out out'

-- writing the samples of a slice, whose length is the frame's
abbrev pub WriteSamples : List ℕ → ℕ → ℕ → List ℕ → List ℕ → WriteAnswer → Type 0
WriteSamples s law set out out' r = Writes (write_one (length s) s law set (length out)) r out out'

pub record Walks (walked : Walked) (r : WalkAnswer) (out out' : List ℕ) : Type 0 where
  pub end : r.end ≡ walked.end
  pub frames : r.frames ≡ length walked.frames
  pub octets : r.octets ≡ octets_kept walked.frames
  pub samples : r.samples ≡ length (samples_kept walked.frames)
  pub place : r.place ≡ walked.place
  pub bit : r.bit ≡ walked.bit
  pub lent : out' ≡ at_start (samples_kept walked.frames) out

-- walking a stream
abbrev pub Walk : List ℕ → ℕ → ℕ → List ℕ → List ℕ → WalkAnswer → Type 0
Walk octets law set out out' r = Walks (walk_all octets law set (length out)) r out out'
