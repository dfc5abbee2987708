-- What reading and writing a recording file report (document 02, R-1).
use Rattle.std.specs.Prelude.{ℕ, ◌≡◌, List, [], ◌∷◌, map, length}
use Rattle.rules.specs.Calls.{at_start}
use Rattle.recording.specs.Items.{File, sound_in, cell_of}
use Rattle.recording.specs.Files.{Filed}
use Rattle.recording.specs.Calls.{number_of, tool_named, written_end, written_octets}

-- the number; law, items, octets after the heading, the frames' samples, the tool that is named and the refusal's bit; samples and items at
-- the start of what is lent for them, the rest as lent
pub record FileReadReported (f : File) (out out' cells cells' six : List ℕ) (r : ℕ) : Type 0 where
  pub number : r ≡ number_of f.read.end
  pub report : six
      ≡ f.law ∷ length f.read.items ∷ f.read.place ∷ length (sound_in f.read.items) ∷ tool_named f.read.end ∷ f.read.bit ∷ []
  pub lent : out' ≡ at_start (sound_in f.read.items) out
  pub told : cells' ≡ at_start (map cell_of f.read.items) cells

-- the number and the octets of the file; the file at the start of the output, the rest as lent; refused, all of it as lent
pub record FileWriteReported (f : Filed) (out out' one : List ℕ) (r : ℕ) : Type 0 where
  pub number : r ≡ number_of (written_end f)
  pub report : one ≡ length (written_octets f) ∷ []
  pub lent : out' ≡ at_start (written_octets f) out
