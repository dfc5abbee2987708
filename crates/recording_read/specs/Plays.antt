-- The contract of reading items from a place on, and of what a heading says.
use Rattle.std.specs.Prelude.{ℕ, suc, ◌-◌, ◌≡◌, List, map, length, drop}
use Rattle.rules.specs.Calls.{at_start}
use Rattle.recording.specs.Remembered.{Headed, heading, no_heading, heading_length}
use Rattle.recording.specs.Items.{Recorded, items_from, File, sound_in, cell_of}
use Rattle.recording.specs.Calls.{Reads}
use Rattle.recording.specs.declared.FileRead.{FileRead}
use Rattle.recording_read.specs.declared.Played.{Played}
use Rattle.std.specs.declared.option.Option.{Option}
use Rattle.std.specs.declared.option.Option.TheVariants.{Some, None}

-- the frames' samples stand at the output's start, the items at that of theirs; the rest of both is as lent
pub record Plays (read : Recorded) (r : Played) (out out' cells cells' : List ℕ) : Type 0 where
  pub end : r.end ≡ read.end
  pub items : r.items ≡ length read.items
  pub place : r.place ≡ read.place
  pub samples : r.samples ≡ length (sound_in read.items)
  pub bit : r.bit ≡ read.bit
  pub lent : out' ≡ at_start (sound_in read.items) out
  pub told : cells' ≡ at_start (map cell_of read.items) cells

-- so many items at most, from place `at` on; the lengths of the output and of the cells are the room
abbrev pub PlayOn : List ℕ → ℕ → ℕ → ℕ → ℕ → List ℕ → List ℕ → List ℕ → List ℕ → Played → Type 0
PlayOn octets law set at items out out' cells cells' r =
    Plays (items_from items octets law set at (length out) (length cells)) r out out' cells cells'

-- what a heading says
abbrev pub as_headed : Option ℕ → Headed
as_headed (Some law) = heading law
as_headed None = no_heading

-- a file whose heading says this law, its items read to the end
abbrev pub whole_file : List ℕ → ℕ → ℕ → ℕ → ℕ → File
whole_file octets law set room places =
    record { law = law; read = items_from (suc (length octets - heading_length)) (drop heading_length octets) law set 0 room places }

abbrev pub ReadItems : List ℕ → ℕ → ℕ → List ℕ → List ℕ → List ℕ → List ℕ → FileRead → Type 0
ReadItems octets law set out out' cells cells' r = Reads (whole_file octets law set (length out) (length cells)) r out out' cells cells'
