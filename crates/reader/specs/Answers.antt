-- What a report tells of a reading, and where the samples are.
use Rattle.std.specs.Prelude.{ℕ, ◌≡◌, List, length, take}
use Rattle.rules.specs.Bits.{bits_of, fill_for}
use Rattle.rules.specs.Samples.{mask_of}
use Rattle.rules.specs.Reading.{Read, filled}
use Rattle.rules.specs.Frame.{Found, with_tool}
use Rattle.rules.specs.Calls.{read_end, read_samples, read_octets, read_bits, read_tool, read_bit, at_start}
use Rattle.read_opening.specs.declared.Head.{Head}
use Rattle.read_opening.specs.Opening.{body_of}
use Rattle.reader.specs.declared.Report.{Report}

-- the reading of a frame whose head is read
abbrev pub after_head : ℕ → ℕ → ℕ → Head → List ℕ → Read Found
after_head law set room h octets = with_tool set room h.tool h.len (body_of (mask_of law) h) (bits_of octets) h.at

-- a frame of tool t whose body is read: its filling bits, and the frame
abbrev pub finish : ℕ → List ℕ → ℕ → List ℕ → Read Found
finish t s n b = filled (record { tool = t; samples = s; bits = n }) (fill_for n) b n

pub record Tells (found : Read Found) (r : Report) : Type 0 where
  pub end : r.end ≡ read_end found
  pub len : r.len ≡ length (read_samples found)
  pub octets : r.octets ≡ read_octets found
  pub bits : r.bits ≡ read_bits found
  pub tool : r.tool ≡ read_tool found
  pub bit : r.bit ≡ read_bit found

-- the samples are the first of the frame buffer's 320
pub record Fills (found : Read Found) (r : Report) (buffer : List ℕ) : Type 0 where
  pub tells : Tells found r
  pub samples : take (length (read_samples found)) buffer ≡ read_samples found
  pub size : length buffer ≡ 320

-- the report alone; what is in the frame buffer is not told
pub record Measures (found : Read Found) (r : Report) (buffer : List ℕ) : Type 0 where
  pub tells : Tells found r
  pub size : length buffer ≡ 320

-- the samples stand at the start of the output, and the rest of it is as lent
pub record ReadsInto (found : Read Found) (r : Report) (out out' : List ℕ) : Type 0 where
  pub tells : Tells found r
  pub lent : out' ≡ at_start (read_samples found) out
