-- Document 02, R-9: "from the last mark at or before it and fewer than 64 frames after that mark"; "The answer counts the frames read, from
-- that mark up to and including the one named." "Refusals, in order: NUMBER, ABSENT, BEYOND (21) if the sample number isn't below the
-- greeting's samples."
use Rattle.std.specs.Prelude.{ℕ, ◌+◌, ◌*◌, ◌-◌, ◌%◌, List, [], ◌∷◌, length, eqb, leb, ltb, Some, None, Ok, Err}
use Rattle.rules.specs.Judged.{Asked, ask, bar, judged}
use Rattle.store_rows.specs.declared.rows.Row.{Row}
use Rattle.store_rows.specs.Limits.{is_number}
use Rattle.store_rows.specs.Rows.{greeting}
use Rattle.store_rows.specs.Finding.{absent, find_from}
use Rattle.store_rows.specs.Changed.{nth}
use Rattle.store_greeting.specs.Marks.{Mark, Note, frames_apart}
use Rattle.store_notes.specs.Notes.{nth_note}
use Rattle.std.specs.declared.result.Result.{Result}
use Rattle.store_jump.specs.declared.jumping.Told.{Told}
use Rattle.store_jump.specs.Seeking.{Sought, seek, from_mark, nth_mark, last_mark}
use Rattle.store_jump.specs.declared.jumping.Refusal.{Refusal}
use Rattle.store_jump.specs.declared.jumping.Refusal.TheVariants.{Number, Absent, Bad, Beyond}

-- "the frame .., its octet place and the sample's place in the frame", and "the frames read"
abbrev pub told_by : ℕ → ℕ → ℕ → ℕ → Told
told_by frame place inside read = record { frame = frame; place = place; inside = inside; read = read }

-- what a jump tells, or the refusal
abbrev pub Answer : Type 0
Answer = Result Told Refusal

-- The frames read count from the frame of mark k, which is frame 64 * k. Where the frames do not reach the sample: BAD.
abbrev pub named : ℕ → Sought → Answer
named k (Some (frame, place, inside)) = Ok (told_by frame place inside (frame - frames_apart * k + 1))
named k None = Err Bad

-- the same by the frame alone, as the code counts: fewer than 64 frames after a mark the two are one (proofs/Sought, `counted-named`)
abbrev pub counted : Sought → Answer
counted (Some (frame, place, inside)) = Ok (told_by frame place inside (frame % frames_apart + 1))
counted None = Err Bad

-- from mark k of a greeting; a mark behind the sample is false
abbrev pub mark_asks : Mark → ℕ → List (Asked Refusal)
mark_asks m sample = bar Bad (ltb sample m.samples) ∷ []

unfoldable pub jump_from : ℕ → List ℕ → ℕ → Mark → ℕ → Answer
jump_from law xs k m sample =
    judged (mark_asks m sample) Err
    (named k (seek sample (frames_apart * k) m.samples (from_mark law xs m.octets).frames))

-- in a greeting with its note; one without a mark has no frame to begin at
abbrev pub greeting_asks : Note → ℕ → List (Asked Refusal)
greeting_asks n sample = bar Beyond (leb n.samples sample) ∷ bar Bad (eqb (length n.marks) 0) ∷ []

unfoldable pub jump_in : List ℕ → Note → ℕ → Answer
jump_in xs n sample =
    judged (greeting_asks n sample) Err
    (jump_from n.law xs (last_mark n.marks sample) (nth_mark (last_mark n.marks sample) n.marks) sample)

-- "NUMBER, ABSENT"
abbrev pub find_asks : List Row → ℕ → List (Asked Refusal)
find_asks rows number = ask Number (is_number number) ∷ bar Absent (absent number rows) ∷ []

unfoldable pub jump_among : List ℕ → List Row → List Note → ℕ → ℕ → Answer
jump_among b rows notes number sample =
    judged (find_asks rows number) Err
    (jump_in (greeting b (nth (find_from number 0 rows) rows)) (nth_note (find_from number 0 rows) notes) sample)
