-- What the tool writes of a frame: its heading, and the lines of its reasons.
use Rattle.std.specs.Prelude.{ℕ, ◌≡◌, List, ◌++◌, length, Ok}
use Rattle.rules.specs.Listing.{field, line_end, frame_word, at_word}
use Rattle.reasons.specs.declared.Reasons.{Reasons}
use Rattle.reasons.specs.Why.{why_one}
use Rattle.reasons.specs.Lines.{lines_of}

-- `frame=K at=P`: frames and samples are counted from 0
unfoldable pub head_line : ℕ → ℕ → List ℕ
head_line k place = field frame_word k ++ (field at_word place ++ line_end)

abbrev pub frame_text : ℕ → ℕ → Reasons → List ℕ
frame_text k place r = head_line k place ++ lines_of r

-- the text of frame k, which stands at `place` of the sound
pub record Shows (frame : List ℕ) (k place law set : ℕ) (text : List ℕ) : Type 0 where
  pub reasons : Reasons
  pub why : why_one (length frame) frame law set ≡ Ok reasons
  pub says : text ≡ frame_text k place reasons

-- more samples than any file has
abbrev pub most_sound : ℕ
most_sound = 9830400000000000000
