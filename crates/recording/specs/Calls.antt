-- The contract of each public call: its answer and the lent outputs, for all inputs.
use Rattle.std.specs.Prelude.{ℕ, ◌≡◌, List, [], map, length}
use Rattle.rules.specs.Refusals as rules
use Rattle.rules.specs.Refusals.{numbered}
use Rattle.rules.specs.Calls.{at_start}
use Rattle.recording.specs.declared.Refusal.{Refusal}
use Rattle.recording.specs.declared.Refusal.TheVariants.{Head, Frame}
use Rattle.recording.specs.Endings.{Ending}
use Rattle.std.specs.Prelude.{Ok, Err}
use Rattle.recording.specs.declared.FileRead.{FileRead}
use Rattle.recording.specs.declared.FileWritten.{FileWritten}
use Rattle.recording.specs.Items.{File, read_file, sound_in, cell_of}
use Rattle.recording.specs.Files.{Filed, filed, declined, write_file}

-- the paper's number of a refusal, and the tool that it names
abbrev pub refusal_number : Refusal → ℕ
refusal_number Head = 14
refusal_number (Frame w) = rules.refusal_number w

-- no refusal has the number 0
pub head-not-zero : (w : Refusal) → refusal_number w ≡ 0 → ⊥
head-not-zero Head e = cc
head-not-zero (Frame w) e = rules.refusal-not-zero w e

abbrev pub refusal_tool : Refusal → ℕ
refusal_tool Head = 0
refusal_tool (Frame w) = rules.refusal_tool w

abbrev pub number_of : Ending → ℕ
number_of = numbered refusal_number

abbrev pub tool_named : Ending → ℕ
tool_named (Ok _) = 0
tool_named (Err w) = refusal_tool w

-- what reading a file reports; the frames' samples stand at the output's start, the items at that of theirs
pub record Reads (f : File) (r : FileRead) (out out' cells cells' : List ℕ) : Type 0 where
  pub end : r.end ≡ f.read.end
  pub law : r.law ≡ f.law
  pub items : r.items ≡ length f.read.items
  pub octets : r.octets ≡ f.read.place
  pub samples : r.samples ≡ length (sound_in f.read.items)
  pub bit : r.bit ≡ f.read.bit
  pub lent : out' ≡ at_start (sound_in f.read.items) out
  pub told : cells' ≡ at_start (map cell_of f.read.items) cells

abbrev pub ReadFile : List ℕ → ℕ → List ℕ → List ℕ → List ℕ → List ℕ → FileRead → Type 0
ReadFile octets set out out' cells cells' r = Reads (read_file octets set (length out) (length cells)) r out out' cells cells'

-- what writing a file reports; nothing is written by a refused call
abbrev pub written_end : Filed → Ending
written_end (filed octets) = Ok tt
written_end (declined w) = Err w

abbrev pub written_octets : Filed → List ℕ
written_octets (filed octets) = octets
written_octets (declined w) = []

pub record Writes (f : Filed) (r : FileWritten) (out out' : List ℕ) : Type 0 where
  pub end : r.end ≡ written_end f
  pub octets : r.octets ≡ length (written_octets f)
  pub lent : out' ≡ at_start (written_octets f) out

abbrev pub WriteFile : List ℕ → List ℕ → ℕ → ℕ → List ℕ → List ℕ → FileWritten → Type 0
WriteFile samples cells law set out out' r = Writes (write_file samples cells law set (length out)) r out out'
