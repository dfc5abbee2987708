-- Where a sound is cut into frames, how it ends, and a sound filled up.
use Rattle.std.specs.Prelude.{ℕ, zero, suc, ◌+◌, ◌-◌, ◌%◌, min, ◌≡◌, List, [], ◌∷◌, ◌++◌, cond, length, take, drop, replicate, eqb, leb}
use Rattle.rules.specs.declared.Refusal.TheVariants.{Length}
use Rattle.rules.specs.Refusals.{Ending}
use Rattle.std.specs.Prelude.{Ok, Err}
use Rattle.rules.specs.Samples.{mask_of, plus_zero}

-- of the five lengths the largest that is at most `most`; 0 where none is
unfoldable pub largest_up_to : ℕ → ℕ
largest_up_to most =
    cond (leb 320 most) 320
    (cond (leb 240 most) 240
    (cond (leb 160 most) 160
    (cond (leb 80 most) 80
    (cond (leb 40 most) 40 0))))

-- the next frame's length: the largest that is at most the frame length and at most the sound left
abbrev pub next_length : ℕ → ℕ → ℕ
next_length n left = largest_up_to (min n left)

-- the frames that a sound is cut into, from its start on, until no length fits.
-- Each has an octet, so the first number, the octets of the sound, is never short.
unfoldable pub cuts_from : ℕ → ℕ → List ℕ → List (List ℕ)
cuts_from zero n sound = []
cuts_from (suc more) n sound =
    cond (eqb (next_length n (length sound)) 0) []
    (take (next_length n (length sound)) sound ∷ cuts_from more n (drop (next_length n (length sound)) sound))

unfoldable pub cuts : ℕ → List ℕ → List (List ℕ)
cuts n sound = cuts_from (length sound) n sound

-- frames one after another: the sound in them
unfoldable pub sound_in : List (List ℕ) → List ℕ
sound_in [] = []
sound_in (s ∷ frames) = s ++ sound_in frames

-- how a sound ends: well where its cuts are all of it; octets left that no length fits are LENGTH
unfoldable pub last_end : ℕ → Ending
last_end left = cond (eqb left 0) (Ok tt) (Err Length)

unfoldable pub end_of : ℕ → List ℕ → Ending
end_of n sound = last_end (length sound - length (sound_in (cuts n sound)))

-- how many octets there are to the next multiple of 40
abbrev pub to_fill : ℕ → ℕ
to_fill len = (40 - len % 40) % 40

-- plus zeros after the first `len` octets, up to the next multiple of 40; the rest is as lent
pub record FillsUp (len law : ℕ) (sound sound' : List ℕ) (r : ℕ) : Type 0 where
  pub added : r ≡ to_fill len
  pub lent : sound' ≡ take len sound ++ (replicate (to_fill len) (plus_zero (mask_of law)) ++ drop (len + to_fill len) sound)
