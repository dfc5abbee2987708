-- One item of a recording file, in the code's steps: what is at a place, and what a turn tells of it.
use Rattle.std.specs.Prelude.{ℕ, ◌≡◌, List, [], cond, length, get_or, take, drop, eqb}
use Rattle.rules.specs.declared.Refusal.{Refusal}
use Rattle.std.specs.declared.result.Result.{Result}
use Rattle.std.specs.Prelude.{Ok, Err}
use Rattle.rules.specs.Samples.{mask_of}
use Rattle.rules.specs.Reading.{Read, whole, refuse}
use Rattle.rules.specs.Frame.{Found, octets_used, read_one}
use Rattle.recording.specs.Remembered.{lost_octet}
use Rattle.recording.specs.Items.{Item, lost, item_of, sound_of, cell_of}
use Rattle.recording_read.specs.declared.Turn.{Turn}
use Rattle.recording_read.specs.declared.Stop.{Stop}

-- an item and its octets, or the refusal of a frame and its bit
pub data Step : Type 0 where
  takes : Item → ℕ → Step
  stops : Refusal → ℕ → Step

abbrev pub frame_step : ℕ → Read Found → Step
frame_step mask (whole f i) = takes (item_of mask f) (octets_used f)
frame_step mask (refuse w bit) = stops w bit

-- what stands at a place: the mark that stands alone, or a frame
abbrev pub item_step : List ℕ → ℕ → ℕ → ℕ → ℕ → Step
item_step octets law set at room =
    cond (eqb (get_or octets at 0) lost_octet) (takes (lost 0) 1) (frame_step (mask_of law) (read_one (drop at octets) law set room))

-- what is told of it: an item's octets, its sound samples and its number; or the refusal and its bit
abbrev pub turn_of : Item → ℕ → Turn
turn_of i used = record { octets = used; len = length (sound_of i); cell = cell_of i }

abbrev pub told_of : Step → Result Turn Stop
told_of (takes i used) = Ok (turn_of i used)
told_of (stops w bit) = Err (record { why = w; bit = bit })

abbrev pub step_sound : Step → List ℕ
step_sound (takes i used) = sound_of i
step_sound (stops w bit) = []

-- its sound is the first of the frame buffer's 320
pub record Turned (s : Step) (t : Result Turn Stop) (buffer : List ℕ) : Type 0 where
  pub tells : t ≡ told_of s
  pub sound : take (length (step_sound s)) buffer ≡ step_sound s
  pub size : length buffer ≡ 320
