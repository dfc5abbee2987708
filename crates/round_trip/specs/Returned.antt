-- What a round trip does: the two calls by their contracts, and, where the writer accepted the frame and the room is enough, the frame
-- restored.
use Rattle.std.specs.Prelude.{ℕ, ◌≤◌, ◌≡◌, List, length, take}
use Rattle.std.specs.Prelude.{Ok}
use Rattle.rules.specs.declared.Frame.{Frame}
use Rattle.rules.specs.Calls.{IsFrame, ReadFrame, WriteFrame}
use Rattle.round_trip.specs.declared.Trip.{Trip}

-- the frame's length and its samples up to it come back, with 00 past them, from exactly the octets written
pub record Restores (f : Frame) (t : Trip) : Type 0 where
  pub end : t.read.end ≡ Ok tt
  pub frame : IsFrame (take f.len f.samples) t.read.frame
  pub octets : t.read.octets ≡ t.wrote.octets
  pub bits : t.read.bits ≡ t.wrote.bits
  pub tool : t.read.tool ≡ t.wrote.tool

pub record Returns (f : Frame) (law set : ℕ) (kept kept' sound sound' : List ℕ) (t : Trip) : Type 0 where
  pub writes : WriteFrame f law set kept kept' t.wrote
  pub reads : ReadFrame (take t.wrote.octets kept') law set sound sound' t.read
  pub restores : t.wrote.end ≡ Ok tt → f.len ≤ length sound → Restores f t
