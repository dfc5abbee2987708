-- One item at a place behind the heading: "kind (0 frame, 1 loss), samples (of a loss its length, 0 where not known), octets, tool, bit, the
-- next place. A loss writes nothing." "LAW, SET, LONG, SHORT where `at` is not below the octets, then the frame's; ROOM as g7110_read (an
-- erasure frame needs its room while it is read). A refused one reports 0, 0, 0, tool, bit, at."
use Rattle.std.specs.Prelude.{ℕ, ◌+◌, ◌≡◌, List, [], ◌∷◌, cond, length, get_or, drop, eqb, ltb}
use Rattle.rules.specs.declared.Refusal.TheVariants as rules
use Rattle.rules.specs.Refusals.{ask, judged}
use Rattle.rules.specs.Samples.{mask_of}
use Rattle.rules.specs.Reading.{Read, whole, refuse}
use Rattle.rules.specs.Frame.{Found, octets_used, read_one}
use Rattle.rules.specs.Walk.{walk_asks}
use Rattle.rules.specs.Calls.{at_start}
use Rattle.recording.specs.declared.Refusal.{Refusal}
use Rattle.recording.specs.declared.Refusal.TheVariants.{Head, Frame}
use Rattle.recording.specs.Endings.{Ending}
use Rattle.std.specs.Prelude.{Ok, Err}
use Rattle.recording.specs.Remembered.{Headed, heading, no_heading, heading_length, lost_octet}
use Rattle.recording.specs.Items.{Item, sound, lost, item_of, sound_of}
use Rattle.recording.specs.Calls.{refusal_tool}
use Rattle.recording_next.specs.declared.Told.{Told}
use Rattle.recording_next.specs.declared.FileHead.{FileHead}

-- an item, its octets, and its frame's tool; or the refusal and its bit
pub data Piece : Type 0 where
  found : Item → ℕ → ℕ → Piece
  refused : Refusal → ℕ → Piece

-- "An erasure frame tells its frame's tool"
abbrev pub piece_of : ℕ → Read Found → Piece
piece_of mask (whole f i) = found (item_of mask f) (octets_used f) f.tool
piece_of mask (refuse w bit) = refused (Frame w) bit

-- what stands at a place: "01 is 1, 0, 1, 0, 0, at + 1, with any set and no room", or a frame
abbrev pub item_here : List ℕ → ℕ → ℕ → ℕ → ℕ → Piece
item_here octets law set at room =
    cond (eqb (get_or octets at 0) lost_octet) (found (lost 0) 1 0) (piece_of (mask_of law) (read_one (drop at octets) law set room))

-- "LONG counts all octets, not those from `at` on. SHORT at or past the end has tool 0, bit 0."
unfoldable pub next_of : List ℕ → ℕ → ℕ → ℕ → ℕ → Piece
next_of octets at law set room =
    judged (walk_asks law set (length octets)) (λ why. refused (Frame why) 0)
    (judged (ask rules.Short (ltb at (length octets)) ∷ []) (λ why. refused (Frame why) 0)
    (item_here octets law set at room))

-- what is reported of a piece
abbrev pub piece_end : Piece → Ending
piece_end (found i used t) = Ok tt
piece_end (refused w bit) = Err w

abbrev pub kind_of : Item → ℕ
kind_of (sound f) = 0
kind_of (lost n) = 1

abbrev pub samples_of : Item → ℕ
samples_of (sound f) = length f.samples
samples_of (lost n) = n

abbrev pub piece_kind : Piece → ℕ
piece_kind (found i used t) = kind_of i
piece_kind (refused w bit) = 0

abbrev pub piece_samples : Piece → ℕ
piece_samples (found i used t) = samples_of i
piece_samples (refused w bit) = 0

abbrev pub piece_octets : Piece → ℕ
piece_octets (found i used t) = used
piece_octets (refused w bit) = 0

abbrev pub piece_tool : Piece → ℕ
piece_tool (found i used t) = t
piece_tool (refused w bit) = refusal_tool w

abbrev pub piece_bit : Piece → ℕ
piece_bit (found i used t) = 0
piece_bit (refused w bit) = bit

-- "the next place"; of a refused one `at`
abbrev pub next_place : Piece → ℕ → ℕ
next_place (found i used t) at = at + used
next_place (refused w bit) at = at

-- "A loss writes nothing"
abbrev pub piece_sound : Piece → List ℕ
piece_sound (found i used t) = sound_of i
piece_sound (refused w bit) = []

pub record Tells (p : Piece) (at : ℕ) (r : Told) (out out' : List ℕ) : Type 0 where
  pub end : r.end ≡ piece_end p
  pub kind : r.kind ≡ piece_kind p
  pub samples : r.samples ≡ piece_samples p
  pub octets : r.octets ≡ piece_octets p
  pub tool : r.tool ≡ piece_tool p
  pub bit : r.bit ≡ piece_bit p
  pub place : r.place ≡ next_place p at
  pub lent : out' ≡ at_start (piece_sound p) out

-- the item at a place, once nothing refuses before it; and the call. The output's length is the room
abbrev pub ItemAt : List ℕ → ℕ → ℕ → ℕ → List ℕ → List ℕ → Told → Type 0
ItemAt octets law set at out out' r = Tells (item_here octets law set at (length out)) at r out out'

abbrev pub FileNext : List ℕ → ℕ → ℕ → ℕ → List ℕ → List ℕ → Told → Type 0
FileNext octets at law set out out' r = Tells (next_of octets at law set (length out)) at r out out'

-- what the heading tells: "law, 10", or HEAD
abbrev pub head_end : Headed → Ending
head_end (heading law) = Ok tt
head_end no_heading = Err Head

abbrev pub head_law : Headed → ℕ
head_law (heading law) = law
head_law no_heading = 0

abbrev pub head_octets : Headed → ℕ
head_octets (heading law) = heading_length
head_octets no_heading = 0

pub record HeadTold (h : Headed) (r : FileHead) : Type 0 where
  pub end : r.end ≡ head_end h
  pub law : r.law ≡ head_law h
  pub octets : r.octets ≡ head_octets h
