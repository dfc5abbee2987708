-- Octets heard in parts: a part is the items from a place on, as many as the output and the cells are sure to hold.
use Rattle.std.specs.Prelude.{ℕ, ◌+◌, ◌*◌, ◌/◌, ◌≤◌, ◌<◌, min, ◌≡◌, List, [], ◌∷◌, map, Bool, true, false, cond, length, leb, ltb}
use Rattle.rules.specs.Chooses.{count_of}
use Rattle.rules.specs.Calls.{at_start}
use Rattle.recording.specs.Endings.{Ending}
use Rattle.std.specs.Prelude.{Ok, Err}
use Rattle.recording.specs.Items.{Item, sound, lost, Recorded, sound_in, cell_of, loss_from}
use Rattle.recording_read.specs.declared.Played.{Played}
use Rattle.tool_playback.specs.declared.parts.Reading.{Reading}
use Rattle.tool_playback.specs.declared.parts.Part.{Part}
use Rattle.tool_playback.specs.Heard.{heard_from}

-- a frame has at most 320 samples, so these items fit, whatever they are
abbrev pub sure_items : ℕ → ℕ → ℕ
sure_items room places = min (room / 320) places

abbrev pub part_of : List ℕ → Reading → ℕ → ℕ → ℕ → Recorded
part_of octets h at room places = heard_from h (sure_items room places) octets at room places

-- there is more to come where a part ended clean before the end
abbrev pub goes_on : Ending → ℕ → ℕ → Bool
goes_on (Ok _) place size = ltb place size
goes_on (Err why) place size = false

-- how many of the items are losses; and of items as numbers
abbrev pub loss_of : Item → ℕ
loss_of (sound f) = 0
loss_of (lost n) = 1

unfoldable pub losses_in : List Item → ℕ
losses_in [] = 0
losses_in (i ∷ is) = loss_of i + losses_in is

abbrev pub is_loss : ℕ → Bool
is_loss c = leb loss_from c

abbrev pub loss_cells : List ℕ → ℕ
loss_cells cs = count_of is_loss cs

-- the answer and the lent output are those of a part of so many octets; of a recording the items are told in the lent cells
pub record Parts (size : ℕ) (records : Bool) (read : Recorded) (r : Part) (out out' cells cells' : List ℕ) : Type 0 where
  pub end : r.end ≡ read.end
  pub at : r.at ≡ read.place
  pub bit : r.bit ≡ read.bit
  pub items : r.items ≡ length read.items
  pub losses : r.lost ≡ losses_in read.items
  pub samples : r.samples ≡ length (sound_in read.items)
  pub more : r.more ≡ goes_on read.end read.place size
  pub lent : out' ≡ at_start (sound_in read.items) out
  pub told : cells' ≡ cond records (at_start (map cell_of read.items) cells) cells

abbrev pub NextPart : List ℕ → Reading → ℕ → List ℕ → List ℕ → List ℕ → List ℕ → Part → Type 0
NextPart octets h at out out' cells cells' r =
    Parts (length octets) h.records (part_of octets h at (length out) (length cells)) r out out' cells cells'

-- what a caller goes by: the samples are in the output and the items in the cells, each item has an octet and at most 320 samples, and a
-- part with more to come has come nearer to the end
pub record Goes (octets : List ℕ) (at : ℕ) (out cells : List ℕ) (r : Part) : Type 0 where
  pub fits : r.samples ≤ length out
  pub places : r.items ≤ length cells
  pub held : r.samples ≤ 320 * r.items
  pub some : r.lost ≤ r.items
  pub few : at ≤ length octets → at + r.items ≤ length octets
  pub ends : at ≤ length octets → r.at ≤ length octets
  pub nearer : 320 ≤ length out → 1 ≤ length cells → r.more ≡ true → at < r.at
  pub inside : r.more ≡ true → r.at ≤ length octets

-- what was read of so many octets, as a part
pub record Answers (p : Played) (lost size : ℕ) (r : Part) : Type 0 where
  pub end : r.end ≡ p.end
  pub at : r.at ≡ p.place
  pub bit : r.bit ≡ p.bit
  pub items : r.items ≡ p.items
  pub losses : r.lost ≡ lost
  pub samples : r.samples ≡ p.samples
  pub more : r.more ≡ goes_on p.end p.place size
