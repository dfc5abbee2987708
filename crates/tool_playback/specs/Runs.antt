-- Part after part: what may be used next, and what the totals of a whole file are.
use Rattle.std.specs.Prelude.{ℕ, suc, ◌+◌, ◌*◌, ◌^◌, ◌≤◌, ◌<◌, ◌≡◌, true, false, List, [], ◌++◌, length}
use Rattle.rules.specs.Tools.{is_law, is_set}
use Rattle.rules.specs.Walk.{longest}
use Rattle.std.specs.Prelude.{Ok}
use Rattle.recording.specs.Remembered.{heading_length}
use Rattle.recording.specs.Items.{Item, Recorded, sound_in}
use Rattle.tool_sound.specs.Uses.{is_well}
use Rattle.tool_playback.specs.declared.parts.Reading.{Reading}
use Rattle.tool_playback.specs.declared.parts.Part.{Part}
use Rattle.tool_playback.specs.declared.playing.Body.{Body}
use Rattle.tool_playback.specs.declared.playing.Total.{Total}
use Rattle.tool_playback.specs.Heard.{heard_from}
use Rattle.tool_playback.specs.Parts.{part_of, goes_on, losses_in, NextPart}

-- the parts of octets from their start on, each with more to come: their items, and the place where the last one ended
pub data Before (body : List ℕ) (h : Reading) : List Item → ℕ → Type 0 where
  none : Before body h [] 0
  one_more : {done : List Item} {at : ℕ} → Before body h done at → (room places : ℕ)
      → goes_on (part_of body h at room places).end (part_of body h at room places).place (length body) ≡ true
      → Before body h (done ++ (part_of body h at room places).items) (part_of body h at room places).place

-- what may be used: the page's sound is that of the next part, after the parts before it
pub record NextSound (body : List ℕ) (h : Reading) (at : ℕ) (page : List ℕ) (p : Part) : Type 0 where
  pub done : List Item
  pub before : Before body h done at
  pub lent : List ℕ
  pub cells : List ℕ
  pub cells' : List ℕ
  pub is : NextPart body h at lent page cells cells' p

-- all of the octets, with room and places that are never short
abbrev pub heard : List ℕ → Reading → Recorded
heard body h = heard_from h (suc (length body)) body 0 (320 * length body) (length body)

-- the totals are those of the items
pub record TellsFile (body : List ℕ) (h : Reading) (t : Total) : Type 0 where
  pub end : t.end ≡ (heard body h).end
  pub at : t.at ≡ (heard body h).place
  pub bit : t.bit ≡ (heard body h).bit
  pub items : t.items ≡ length (heard body h).items
  pub losses : t.lost ≡ losses_in (heard body h).items
  pub samples : t.samples ≡ length (sound_in (heard body h).items)

-- whatever came of so many octets: no more losses than items, one at most an octet, and no sample but of a frame
pub record Within (size : ℕ) (t : Total) : Type 0 where
  pub some : t.lost ≤ t.items
  pub ends : t.at ≤ size
  pub few : t.items ≤ size
  pub held : t.samples ≤ 320 * t.items

-- the octets of a file: as many as a walk takes, behind a heading at most
abbrev pub Reachable : Body → Type 0
Reachable b = (b.size ≤ longest) × (b.skip ≤ heading_length)

-- LAW and SET refuse nothing
abbrev pub Lawful : Reading → Type 0
Lawful h = (is_law h.law ≡ true) × (is_set h.set ≡ true)

-- whatever was read: the totals of the items of one stream or recording, no longer than a walk takes
pub record TellsOne (h : Reading) (t : Total) : Type 0 where
  pub body : List ℕ
  pub short : length body ≤ longest
  pub tells : TellsFile body h t

-- window after window: nothing yet; what came of a window, behind what came of those before, where the sums fit
abbrev pub no_total : Total
no_total = record { end = Ok tt; at = 0; bit = 0; items = 0; lost = 0; samples = 0; wrong = Ok tt }

abbrev pub behind_of : Total → Total → Total
behind_of done t =
    record {
      end = t.end;
      at = done.at + t.at;
      bit = t.bit;
      items = done.items + t.items;
      lost = done.lost + t.lost;
      samples = done.samples + t.samples;
      wrong = t.wrong;
    }

abbrev pub Fit : Total → Total → Type 0
Fit done t = (done.at + t.at < 2 ^ 64) × (done.items + t.items < 2 ^ 64) × (done.lost + t.lost < 2 ^ 64)
    × (done.samples + t.samples < 2 ^ 64)

-- a file that can't be read further
pub record UnreadAfter (done t : Total) : Type 0 where
  pub wrong : is_well t.wrong ≡ false
  pub place : t.at ≡ done.at
  pub count : t.items ≡ done.items
  pub losses : t.lost ≡ done.lost
  pub sound : t.samples ≡ done.samples
