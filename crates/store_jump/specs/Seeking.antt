-- Document 02, R-9: "name the frame that holds it, its octet place and the sample's place in the frame, from the last mark at or before
-- it".
use Rattle.std.specs.Prelude.{ℕ, zero, suc, ◌+◌, ◌-◌, ◌/◌, ◌≤◌, ◌<◌, ◌≡◌}
use Rattle.std.specs.Prelude.{List, [], ◌∷◌, ◌++◌, cond, length, get_or, leb, ltb, Option, Some, None}
use Rattle.rules.specs.Walk.{Delivered, Walked, walk_from, samples_kept}
use Rattle.store_greeting.specs.Bad.{walk_of, store_set, never_short}
use Rattle.store_greeting.specs.Marks.{Mark, mark_of, frames_apart}

-- the frame that holds a sample, its octet place, and the sample's place in it
abbrev pub Sought : Type 0
Sought = Option (ℕ × ℕ × ℕ)

-- the same, among frames of which the first is frame i, with so many
-- samples before it. A pad holds none.
unfoldable pub seek : ℕ → ℕ → ℕ → List Delivered → Sought
seek sample i before [] = None
seek sample i before (f ∷ fs) =
    cond (ltb sample (before + length f.found.samples)) (Some (i, f.place, sample - before))
    (seek sample (i + 1) (before + length f.found.samples) fs)

-- which frame that is: of all frames, so many stand before it, and with their samples the sample's place in it makes up the sample number
pub record Holds (fs : List Delivered) (sample frame place inside : ℕ) : Type 0 where
  pub before : List Delivered
  pub named : Delivered
  pub behind : List Delivered
  pub are : fs ≡ before ++ (named ∷ behind)
  pub count : frame ≡ length before
  pub octets : place ≡ named.place
  pub within : inside < length named.found.samples
  pub sum : sample ≡ length (samples_kept before) + inside

-- "The result is the one that a whole walk gives."
abbrev pub by_walk : ℕ → List ℕ → ℕ → Sought
by_walk law xs sample = seek sample 0 0 (walk_of law xs).frames

-- the frames from a mark on, up to the next mark: room for so many frames is never short
abbrev pub from_mark : ℕ → List ℕ → ℕ → Walked
from_mark law xs at = walk_from frames_apart xs law store_set at (never_short frames_apart)

-- "the last mark at or before it"
abbrev pub nth_mark : ℕ → List Mark → Mark
nth_mark k ms = get_or ms k (mark_of 0 0)

-- which mark that is
pub record Latest (ms : List Mark) (sample r : ℕ) : Type 0 where
  pub among : r < length ms
  pub before : (nth_mark r ms).samples ≤ sample
  pub last : (j : ℕ) → j < length ms → (nth_mark j ms).samples ≤ sample → j ≤ r

-- found by halving: it is one from `low` on and below `high`. As many halvings as marks are enough.
abbrev pub middle : ℕ → ℕ → ℕ
middle low high = low + (high - low) / 2

unfoldable pub last_from : ℕ → List Mark → ℕ → ℕ → ℕ → ℕ
last_from zero ms sample low high = low
last_from (suc more) ms sample low high =
    cond (leb high (low + 1)) low
    (cond (leb (nth_mark (middle low high) ms).samples sample)
    (last_from more ms sample (middle low high) high)
    (last_from more ms sample low (middle low high)))

abbrev pub last_mark : List Mark → ℕ → ℕ
last_mark ms sample = last_from (length ms) ms sample 0 (length ms)
