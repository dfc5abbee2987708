-- What the exported calls report, as numbers: "the definition gives this paper's number and values for each case".
use Rattle.std.specs.Prelude.{ℕ, ◌≡◌, List, [], ◌∷◌, length}
use Rattle.rules.specs.Refusals.{number_of, tool_named}
use Rattle.rules.specs.Reading.{Read}
use Rattle.rules.specs.Frame.{Found}
use Rattle.rules.specs.Bits.{octets_for, pack}
use Rattle.rules.specs.Chooses.{Write}
use Rattle.rules.specs.Walk.{Walked, octets_kept, samples_kept}
use Rattle.std.specs.declared.result.Result.{Result}
use Rattle.rules.specs.declared.Refusal.{Refusal}
use Rattle.reasons.specs.declared.Reasons.{Reasons}
use Rattle.reasons.specs.Calls.{why_ending, why_text}
use Rattle.linear.specs.Calls.{judged, after}
use Rattle.rules.specs.Calls.{read_end, read_samples, read_octets, read_bits, read_tool, read_bit, write_end, written_bits, write_tool, at_start}

-- the number; samples, octets used, bits, tool and the refusal's bit; the samples at the start of the output, the rest as lent
pub record ReadReported (found : Read Found) (out out' five : List ℕ) (r : ℕ) : Type 0 where
  pub number : r ≡ number_of (read_end found)
  pub report : five ≡ length (read_samples found) ∷ read_octets found ∷ read_bits found ∷ read_tool found ∷ read_bit found ∷ []
  pub lent : out' ≡ at_start (read_samples found) out

-- the number; frames, octets and samples kept, the tool that is named and the refusal's bit; the samples at the start of the output, the
-- rest as lent
pub record WalkReported (walked : Walked) (out out' five : List ℕ) (r : ℕ) : Type 0 where
  pub number : r ≡ number_of walked.end
  pub report : five ≡ length walked.frames ∷ octets_kept walked.frames ∷ length (samples_kept walked.frames) ∷ tool_named
      walked.end ∷ walked.bit ∷ []
  pub lent : out' ≡ at_start (samples_kept walked.frames) out

-- the number; octets, bits and tool; the octets at the start of the output, the rest as lent
pub record WriteReported (written : Write) (out out' three : List ℕ) (r : ℕ) : Type 0 where
  pub number : r ≡ number_of (write_end written)
  pub report : three ≡ octets_for (length (written_bits written)) ∷ length (written_bits written) ∷ write_tool written ∷ []
  pub lent : out' ≡ at_start (pack (written_bits written)) out

-- why a tool wins: the number; the octets of text; the text at the start of what is lent, the rest as lent
pub record WhyReported (why : Result Reasons Refusal) (text text' one : List ℕ) (r : ℕ) : Type 0 where
  pub number : r ≡ why_ending why
  pub report : one ≡ length (why_text why) ∷ []
  pub lent : text' ≡ at_start (why_text why) text

-- a frame converted: the number; the values at the start of the output, the rest as lent, or all of it as lent
pub record Converted {A : Type 0} (law n : ℕ) (ys out out' : List A) (r : ℕ) : Type 0 where
  pub number : r ≡ number_of (judged law n (length out))
  pub lent : out' ≡ after (judged law n (length out)) ys out
