-- A reading as the code has it, before it is reported: the frame that was accepted, or what stops it and at which bit.
use Rattle.std.specs.Prelude.{ℕ, ◌*◌, ◌^◌, ◌≤◌, ◌≡◌, List, true, length, take, Ok, Err}
use Rattle.std.specs.declared.result.Result.{Result}
use Rattle.rules.specs.Refusals.{refusal_tool}
use Rattle.rules.specs.Tools.{holds}
use Rattle.rules.specs.Bits.{bits_of, fill_for, octets_for}
use Rattle.rules.specs.Reading.{Read, whole, refuse, Reader, filled}
use Rattle.rules.specs.Frame.{Found, with_tool}
use Rattle.rules.specs.Calls.{read_samples, at_start}
use Rattle.read_bits.specs.declared.Stop.{Stop}
use Rattle.read_opening.specs.declared.Head.{Head}
use Rattle.read_bodies.specs.declared.plain.Plain.{Plain}
use Rattle.read_bodies.specs.Plainly.{laid_by, Lies}
use Rattle.reader.specs.declared.Report.{Report}
use Rattle.reader.specs.declared.Taken.{Taken}

abbrev pub taken : Read Found → Result Taken Stop
taken (whole f i) = Ok (record { tool = f.tool; len = length f.samples; bits = f.bits })
taken (refuse w at) = Err (record { why = w; bit = at })

-- the bits are few
abbrev pub Few : Result Taken Stop → Type 0
Few (Ok t) = t.bits ≤ 2 ^ 41
Few (Err s) = Unit {0}

-- what is reported of it
abbrev pub report_of : Result Taken Stop → Report
report_of (Ok t) = record { end = Ok tt; len = t.len; octets = octets_for t.bits; bits = t.bits; tool = t.tool; bit = 0 }
report_of (Err s) = record { end = Err s.why; len = 0; octets = 0; bits = 0; tool = refusal_tool s.why; bit = s.bit }

-- TOOL and ROOM, whatever the body is
abbrev pub Held : ℕ → ℕ → Head → Result (Unit {0}) Stop → Type 0
Held set room h (Ok _) = (holds set h.tool ≡ true) × (h.len ≤ room)
Held set room h (Err s) = (r : Reader (List ℕ)) (b : List ℕ) (i : ℕ) → with_tool set room h.tool h.len r b i ≡ refuse s.why s.bit

-- the bits that fill the last octet of a frame
abbrev pub FillingIs : List ℕ → ℕ → Result (Unit {0}) Stop → Type 0
FillingIs octets end (Ok _) = filled {A = ℕ} 0 (fill_for end) (bits_of octets) end ≡ whole 0 (8 * octets_for end)
FillingIs octets end (Err s) = filled {A = ℕ} 0 (fill_for end) (bits_of octets) end ≡ refuse s.why s.bit

-- what is to be laid is the frame's samples, and there is room for it
pub record GivesBody (found : Read Found) (octets : List ℕ) (h : Head) (room : ℕ) (p : Plain) (bits : ℕ) : Type 0 where
  pub says : taken found ≡ Ok (record { tool = h.tool; len = h.len; bits = bits })
  pub few : bits ≤ 2 ^ 41
  pub samples : laid_by p octets h.len ≡ read_samples found
  pub lies : Lies p octets h.len room

abbrev pub Gives : Read Found → List ℕ → Head → ℕ → Result (Plain × ℕ) Stop → Type 0
Gives found octets h room (Ok p) = GivesBody found octets h room p.0 p.1
Gives found octets h room (Err s) = found ≡ refuse s.why s.bit

-- the samples are the first of the frame buffer's 320
pub record Takes (found : Read Found) (r : Result Taken Stop) (buffer : List ℕ) : Type 0 where
  pub says : r ≡ taken found
  pub few : Few r
  pub samples : take (length (read_samples found)) buffer ≡ read_samples found
  pub size : length buffer ≡ 320

-- what is in the frame buffer is not told
pub record Sizes (found : Read Found) (r : Result Taken Stop) (buffer : List ℕ) : Type 0 where
  pub says : r ≡ taken found
  pub few : Few r
  pub size : length buffer ≡ 320

-- the samples stand at the start of the output, and the rest of it is as lent
pub record TakesInto (found : Read Found) (r : Result Taken Stop) (out out' : List ℕ) : Type 0 where
  pub says : r ≡ taken found
  pub few : Few r
  pub lent : out' ≡ at_start (read_samples found) out
