-- The frames that `pack` cuts a sound into, each with its number and its place, and how far a run that cuts part after part has come.
use Rattle.std.specs.Prelude.{ℕ, ◌+◌, ◌*◌, ◌≤◌, ◌≡◌, List, ◌∷◌, ◌++◌, true, length, drop}
use Rattle.rules.specs.Tools.{is_length}
use Rattle.tool_packing.specs.Cuts.{cuts, sound_in}
use Rattle.tool_packing.specs.SoundParts.{part_size}
use Rattle.why.specs.declared.Run.{Run}
use Rattle.why.specs.Shows.{Shows}

-- frame k of the frames that `pack` cuts a sound into; it stands at `place` of the sound
pub record FrameOf (n : ℕ) (sound : List ℕ) (k place : ℕ) (frame : List ℕ) : Type 0 where
  pub before : List (List ℕ)
  pub after : List (List ℕ)
  pub cut : cuts n sound ≡ before ++ (frame ∷ after)
  pub number : length before ≡ k
  pub stands : length (sound_in before) ≡ place

-- whole parts of a sound, cut into so many frames with so many samples
pub record PartsCut (n frames samples : ℕ) (sound : List ℕ) : Type 0 where
  pub parts : ℕ
  pub whole : length sound ≡ parts * part_size
  pub count : length (cuts n sound) ≡ frames
  pub stands : length (sound_in (cuts n sound)) ≡ samples

-- Of one of the five lengths, which is judged before any sound is read: frame k of the sound as far as it has been read, at its place; and
-- so many frames and samples of whole parts
pub record CutFrame (n k place : ℕ) (frame : List ℕ) : Type 0 where
  pub sound : List ℕ
  pub is : FrameOf n sound k place frame

abbrev pub FrameIn : ℕ → ℕ → ℕ → List ℕ → Type 0
FrameIn n k place frame = is_length n ≡ true → CutFrame n k place frame

pub record CutParts (n frames samples : ℕ) : Type 0 where
  pub sound : List ℕ
  pub parts : PartsCut n frames samples sound

abbrev pub PartsIn : ℕ → ℕ → ℕ → Type 0
PartsIn n frames samples = is_length n ≡ true → CutParts n frames samples

-- a run that came further by at most so many octets: where more may come, by a whole part
pub record Further (n size : ℕ) (run r : Run) : Type 0 where
  pub frames : r.frames ≤ run.frames + size
  pub samples : r.samples ≤ run.samples + size
  pub whole : r.more ≡ true → PartsIn n r.frames r.samples

-- what is written: the text of such a frame
pub record ShowsFrame (n : ℕ) (frame : List ℕ) (k place law set : ℕ) (text : List ℕ) : Type 0 where
  pub cut : FrameIn n k place frame
  pub shows : Shows frame k place law set text

-- a part, cut up to place `from` into k frames
pub record CutTo (n : ℕ) (part : List ℕ) (from k : ℕ) : Type 0 where
  pub done : List (List ℕ)
  pub cut : cuts n part ≡ done ++ cuts n (drop from part)
  pub count : length done ≡ k
  pub stands : length (sound_in done) ≡ from
