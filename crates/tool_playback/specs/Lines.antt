-- What is told of an item: "a line with its place, its length and the sample before which it stands".
use Rattle.std.specs.Prelude.{ℕ, ◌+◌, ◌*◌, ◌^◌, ◌≤◌, ◌<◌, ◌≡◌, List, [], ◌∷◌, ◌++◌, length, get_or}
use Rattle.rules.specs.Walk.{longest}
use Rattle.rules.specs.Listing.{line_end, at_word, samples_word, field}
use Rattle.std.specs.Prelude.{Ok}
use Rattle.recording.specs.Items.{Item, lost, sound_in}
use Rattle.tool_playback.specs.declared.parts.Reading.{Reading}
use Rattle.tool_playback.specs.declared.parts.Point.{Point}
use Rattle.tool_playback.specs.declared.parts.Part.{Part}
use Rattle.tool_playback.specs.Parts.{part_of, NextPart}
use Rattle.tool_playback.specs.Runs.{Before, heard}

-- "loss=I at=P samples=N before=S": the item's number, its octets' place, its samples (0: not known), and the samples of the frames before
-- it
abbrev pub loss_word : List ℕ
loss_word = 0x6C ∷ 0x6F ∷ 0x73 ∷ 0x73 ∷ 0x3D ∷ []

abbrev pub before_word : List ℕ
before_word = 0x20 ∷ 0x62 ∷ 0x65 ∷ 0x66 ∷ 0x6F ∷ 0x72 ∷ 0x65 ∷ 0x3D ∷ []

unfoldable pub loss_line : ℕ → ℕ → ℕ → ℕ → List ℕ
loss_line number place samples before =
    field loss_word number ++ (field at_word place ++ (field (0x20 ∷ samples_word) samples ++ (field before_word before ++ line_end)))

-- so many items, whose frames have so many samples, stand before a place
pub record Follows (body : List ℕ) (h : Reading) (p : Point) : Type 0 where
  pub done : List Item
  pub before : Before body h done p.at
  pub count : p.items ≡ length done
  pub sound : p.samples ≡ length (sound_in done)

-- an item there, alone in its part, and the number that tells it
pub record NextItem (body : List ℕ) (h : Reading) (here : Point) (cell : ℕ) (p : Part) : Type 0 where
  pub follows : Follows body h here
  pub page : List ℕ
  pub page' : List ℕ
  pub lent : List ℕ
  pub cells : List ℕ
  pub room : length page ≡ 320
  pub place : length lent ≡ 1
  pub is : NextPart body h here.at page page' lent cells p
  pub told : cell ≡ get_or cells 0 0

-- it is a loss of so many samples
pub record LossAt (body : List ℕ) (h : Reading) (here : Point) (n : ℕ) : Type 0 where
  pub follows : Follows body h here
  pub is : (part_of body h here.at 320 1).items ≡ lost n ∷ []

-- what stands before the octets that are played, where they are a part of a file: small enough for sums
abbrev pub Small : Point → Type 0
Small b = (b.at ≤ longest) × (b.items ≤ longest) × (b.samples ≤ 320 * longest)

abbrev pub Sums : Point → Point → Type 0
Sums b p = (b.at + p.at < 2 ^ 64) × (b.items + p.items < 2 ^ 64) × (b.samples + p.samples < 2 ^ 64)

-- and it is counted right: octets whose items end with them, these items, and the samples of their frames
pub record Behind (h : Reading) (b : Point) : Type 0 where
  pub done : List ℕ
  pub long : length done ≡ b.at
  pub clean : (heard done h).end ≡ Ok tt
  pub count : b.items ≡ length (heard done h).items
  pub sound : b.samples ≡ length (sound_in (heard done h).items)
  pub small : Small b
