-- Document 02, R-9: "name the frame that holds it, its octet place and the sample's place in the frame, from the last mark at or before it
-- and fewer than 64 frames after that mark. The result is the one that a whole walk gives. The answer counts the frames read, from that
-- mark up to and including the one named."
use Rattle.std.specs.Prelude.{ℕ, ◌+◌, ◌*◌, ◌-◌, ◌/◌, ◌≡◌, List}
use Rattle.store_greeting.specs.Bad.{walk_of}
use Rattle.store_greeting.specs.Marks.{note_of, frames_apart}
use Rattle.std.specs.Prelude.{Ok}
use Rattle.store_jump.specs.Jump.{Answer, told_by}
use Rattle.store_jump.specs.Seeking.{Holds, Latest}

-- of a greeting's whole walk: the frame whose samples hold the sample, and its place; the mark is that of frame 64 * (frame / 64)
pub record Named (law : ℕ) (xs : List ℕ) (sample : ℕ) (r : Answer) : Type 0 where
  pub frame : ℕ
  pub place : ℕ
  pub inside : ℕ
  pub answer : r ≡ Ok (told_by frame place inside (frame - frames_apart * (frame / frames_apart) + 1))
  pub holds : Holds (walk_of law xs).frames sample frame place inside
  pub mark : Latest (note_of law xs).marks sample (frame / frames_apart)
