-- What the parts of the code promise each other.
use Rattle.std.specs.Prelude.{ℕ, ◌+◌, ◌≤◌, ◌<◌, ◌≡◌, List, true, length, replicate}
use Rattle.rules.specs.Bits.{pack}
use Rattle.rules.specs.Chooses.{chosen}
use Rattle.rules.specs.Samples.{mask_of}
use Rattle.rules.specs.Tools.{is_law, is_writer_set}
use Rattle.rules.specs.Walk.{longest}
use Rattle.rules.specs.declared.Refusal as rules
use Rattle.recording.specs.declared.Refusal.TheVariants.{Frame}
use Rattle.std.specs.Prelude.{Err}
use Rattle.recording.specs.declared.FileWritten.{FileWritten}
use Rattle.recording.specs.Remembered.{heading_length, plus_plus}
use Rattle.recording.specs.Files.{entry_octets, six_lengths, given_by, file_given}
use Rattle.recording.specs.Calls.{Writes}
use Rattle.recording_write.specs.Cells.{length_in, taken, entry_by, octets_given}
use Rattle.recording_write.specs.declared.items.By.{By}

-- "the writer's chosen form"
unfoldable pub form : ℕ → ℕ → List ℕ → List ℕ
form mask set s = pack (chosen mask set s).bits

-- a law and a set that a writer takes, and what is written by them: a form, an item, and all items
abbrev pub Lawful : By → Type 0
Lawful by = (is_law by.law ≡ true) × (is_writer_set by.set ≡ true)

abbrev pub form_by : By → List ℕ → List ℕ
form_by by s = form (mask_of by.law) by.set s

abbrev pub item_by : By → ℕ → List ℕ → List ℕ
item_by by c samples = entry_octets (mask_of by.law) by.set (entry_by c samples)

abbrev pub all_by : By → List ℕ → List ℕ → List ℕ
all_by by cells samples = octets_given (mask_of by.law) by.set cells samples

-- "N times 0++", for the longest N
abbrev pub Quiet : ℕ → List ℕ → Type 0
Quiet mask quiet = quiet ≡ replicate 320 (plus_plus mask)

-- an item that is allowed, with the samples for it
pub record ItemIn (samples : List ℕ) (c : ℕ) : Type 0 where
  pub allowed : six_lengths (length_in c) ≡ true
  pub inside : taken c ≤ length samples

-- the octets measured: all, or so many that they are LONG
pub record Measures (total r : ℕ) : Type 0 where
  pub exact : r ≤ longest → r ≡ total
  pub long : longest < r → longest < total

-- a number that settles LONG and ROOM as the octets themselves do
pub record Settles (total room r : ℕ) : Type 0 where
  pub long : longest < r → longest < total
  pub short : r ≤ longest → total ≤ longest
  pub no_room : r ≤ longest → room < heading_length + r → room < heading_length + total
  pub room_for : r ≤ longest → heading_length + r ≤ room → heading_length + total ≤ room

-- a refusal
pub record Declines (why : rules.Refusal) (r : FileWritten) : Type 0 where
  pub end : r.end ≡ Err (Frame why)
  pub octets : r.octets ≡ 0

-- after LAW, SET and LENGTH: "LONG, ROOM (heading and all)"
abbrev pub WriteGiven : List ℕ → List ℕ → ℕ → ℕ → List ℕ → List ℕ → FileWritten → Type 0
WriteGiven samples cells law set out out' r = Writes (file_given law set (given_by cells samples) (length out)) r out out'
