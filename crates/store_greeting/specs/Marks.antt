-- Document 02, R-8: "Add to each stored greeting its law, its total samples, and a mark for frames 0, 64, 128 and so on, pads counted:
-- octets and samples before it."
use Rattle.std.specs.Prelude.{ℕ, ◌+◌, ◌/◌, ◌%◌, List, [], ◌∷◌, Bool, cond, length, eqb}
use Rattle.rules.specs.Walk.{Delivered, samples_kept}
use Rattle.store_greeting.specs.Bad.{walk_of}

-- "octets and samples before it", from the greeting's start on
pub record Mark : Type 0 where
  pub octets : ℕ
  pub samples : ℕ

-- "its law, its total samples, and a mark for .."
pub record Note : Type 0 where
  pub law : ℕ
  pub samples : ℕ
  pub marks : List Mark

-- "frames 0, 64, 128 and so on"
abbrev pub frames_apart : ℕ
frames_apart = 64

abbrev pub mark_of : ℕ → ℕ → Mark
mark_of octets samples = record { octets = octets; samples = samples }

abbrev pub is_marked : ℕ → Bool
is_marked i = eqb (i % frames_apart) 0

-- of the frames that the walk delivers, pads among them: the first of these is frame i, and so many samples stand before it. A mark is the
-- frame's place and the samples before it; so it stands for a frame that there is: after exactly 64 frames there is no second one.
unfoldable pub marks_from : ℕ → ℕ → List Delivered → List Mark
marks_from i before [] = []
marks_from i before (f ∷ fs) =
    cond (is_marked i) (mark_of f.place before ∷ marks_from (i + 1) (before + length f.found.samples) fs)
    (marks_from (i + 1) (before + length f.found.samples) fs)

abbrev pub marks_of : List Delivered → List Mark
marks_of frames = marks_from 0 0 frames

-- "its total samples"
abbrev pub samples_of : List Delivered → ℕ
samples_of frames = length (samples_kept frames)

-- what is kept of a greeting: "true to what the walk gives"
abbrev pub note_of : ℕ → List ℕ → Note
note_of law xs = record { law = law; samples = samples_of (walk_of law xs).frames; marks = marks_of (walk_of law xs).frames }

-- the most marks that so many octets have: each frame has an octet or more
abbrev pub most_marks : ℕ → ℕ
most_marks octets = octets / frames_apart + 1

-- a mark lies in two cells
unfoldable pub mark_cells : List Mark → List ℕ
mark_cells [] = []
mark_cells (m ∷ ms) = m.octets ∷ m.samples ∷ mark_cells ms
