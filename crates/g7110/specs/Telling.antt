-- What the calls that tell report: a stream judged, a frame's first octets, a recording's heading and one of its items.
use Rattle.std.specs.Prelude.{ℕ, ◌≡◌, List, [], ◌∷◌, map, ℤ, length}
use Rattle.rules.specs.Refusals.{number_of, tool_named}
use Rattle.rules.specs.Reading.{Read}
use Rattle.rules.specs.Walk.{Walked, octets_kept, samples_kept}
use Rattle.rules.specs.Calls.{at_start}
use Rattle.linear_masters.specs.Masters.{sample_for, value_for}
use Rattle.read_head.specs.Heads.{FrameHead, head_end, head_tool, head_samples}
use Rattle.recording.specs.Remembered.{Headed}
use Rattle.recording.specs.Calls as recording
use Rattle.recording_next.specs.Next.{Piece, piece_end, piece_kind, piece_samples, piece_octets, piece_tool, piece_bit, next_place, piece_sound}
use Rattle.recording_next.specs.Next.{next_of, head_law, head_octets}
use Rattle.recording_next.specs.Next as next
use Rattle.g7110.specs.Boundary.{Converted}

-- "the header's G7110_VERSION"; a test holds the header to it
abbrev pub version : ℕ
version = 13

-- the number; what a walk reports: frames, octets and samples, the tool that is named and the refusal's bit
pub record CheckReported (walked : Walked) (five : List ℕ) (r : ℕ) : Type 0 where
  pub number : r ≡ number_of walked.end
  pub report : five ≡ length walked.frames ∷ octets_kept walked.frames ∷ length (samples_kept walked.frames) ∷ tool_named
      walked.end ∷ walked.bit ∷ []

-- the number; the tool and the samples
pub record HeadReported (h : Read FrameHead) (two : List ℕ) (r : ℕ) : Type 0 where
  pub number : r ≡ number_of (head_end h)
  pub report : two ≡ head_tool h ∷ head_samples h ∷ []

-- the number; the law and the heading's octets
pub record FileHeadReported (h : Headed) (two : List ℕ) (r : ℕ) : Type 0 where
  pub number : r ≡ recording.number_of (next.head_end h)
  pub report : two ≡ head_law h ∷ head_octets h ∷ []

-- the number; kind, samples, octets, tool, bit and the next place; the sound at the start of the output, the rest as lent
pub record PieceReported (p : Piece) (at : ℕ) (out out' six : List ℕ) (r : ℕ) : Type 0 where
  pub number : r ≡ recording.number_of (piece_end p)
  pub report : six ≡ piece_kind p ∷ piece_samples p ∷ piece_octets p ∷ piece_tool p ∷ piece_bit p ∷ next_place p at ∷ []
  pub lent : out' ≡ at_start (piece_sound p) out

abbrev pub FileNextReported : List ℕ → ℕ → ℕ → ℕ → List ℕ → List ℕ → List ℕ → ℕ → Type 0
FileNextReported octets at law set out out' six r = PieceReported (next_of octets at law set (length out)) at out out' six r

-- a frame to a master's values, and back
abbrev pub ToMasterReported : ℕ → List ℕ → List ℤ → List ℤ → ℕ → Type 0
ToMasterReported law s out out' r = Converted law (length s) (map (value_for law) s) out out' r

abbrev pub FromMasterReported : ℕ → List ℤ → List ℕ → List ℕ → ℕ → Type 0
FromMasterReported law s out out' r = Converted law (length s) (map (sample_for law) s) out out' r
