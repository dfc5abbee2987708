-- How octets are read from a place on: as a recording (document 02, R-1), its losses among its items; or as a stream (document 01, "Walk and
-- listing"), which is a recording without losses: each frame of its walk is an item that is sound.
use Rattle.std.specs.Prelude.{ℕ, ◌≡◌, List, map, Bool, true, false, length}
use Rattle.rules.specs.Refusals as rules
use Rattle.std.specs.Prelude.{Ok, Err}
use Rattle.rules.specs.Walk.{Delivered, Walked, walk_from}
use Rattle.rules.specs.Calls.{at_start}
use Rattle.recording.specs.declared.Refusal.TheVariants.{Frame}
use Rattle.recording.specs.Endings.{Ending}
use Rattle.recording.specs.Items.{Item, sound, Recorded, items_from, sound_in}
use Rattle.recording_read.specs.declared.Played.{Played}
use Rattle.tool_playback.specs.declared.parts.Reading.{Reading}

abbrev pub end_of : rules.Ending → Ending
end_of (Ok _) = Ok tt
end_of (Err why) = Err (Frame why)

abbrev pub frames_as : List Delivered → List Item
frames_as fs = map (λ d. sound d.found) fs

abbrev pub streamed : Walked → Recorded
streamed w = record { items = frames_as w.frames; end = end_of w.end; place = w.place; bit = w.bit }

-- at most so many items; a stream needs no places for them
unfoldable pub heard_as : Bool → ℕ → List ℕ → ℕ → ℕ → ℕ → ℕ → ℕ → Recorded
heard_as true n octets law set at room places = items_from n octets law set at room places
heard_as false n octets law set at room places = streamed (walk_from n octets law set at room)

abbrev pub heard_from : Reading → ℕ → List ℕ → ℕ → ℕ → ℕ → Recorded
heard_from h n octets at room places = heard_as h.records n octets h.law h.set at room places

-- the answer and the lent output are those of what is heard
pub record Hears (read : Recorded) (r : Played) (out out' : List ℕ) : Type 0 where
  pub end : r.end ≡ read.end
  pub items : r.items ≡ length read.items
  pub place : r.place ≡ read.place
  pub samples : r.samples ≡ length (sound_in read.items)
  pub bit : r.bit ≡ read.bit
  pub lent : out' ≡ at_start (sound_in read.items) out

abbrev pub FramesHeard : List ℕ → Reading → ℕ → ℕ → List ℕ → List ℕ → Played → Type 0
FramesHeard octets h at n out out' r = Hears (streamed (walk_from n octets h.law h.set at (length out))) r out out'
