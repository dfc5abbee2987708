-- How large a greeting's samples and the numbers of its marks are: `note-small`.
use Prim.Native.Nat.{ℕ, suc, ◌+◌, ◌*◌, ◌≤◌, ◌<◌}
use mathlib.Core.List.{List, [], ◌∷◌}
use mathlib.Core.Bool.{Bool, true, false, cond}
use native.Mathlib.Omega.{arith}
use native.Mathlib.Decide.{dec_lt}
use lib.ListN.{length, length-append}
use Rattle.rules.specs.Tools.{most_law}
use Rattle.rules.specs.Walk.{Delivered, Walked, longest, samples_kept}
use Rattle.rules.proofs.Walk.{Walks, last, ended, refused, delivers, walks, walk-told}
use Rattle.store_greeting.specs.Bad.{store_set}
use Rattle.store_greeting.proofs.Bad.{walk-of}
use Rattle.store_greeting.specs.Marks.{Mark, mark_of, is_marked, marks_from, note_of}
use Rattle.store_greeting.proofs.Count.{no-law, too_long}

-- marks of so many octets and samples at most
unfoldable pub Small : ℕ → ℕ → List Mark → Type 0
Small o s [] = Unit {0}
Small o s (m ∷ ms) = (m.octets ≤ o) × (m.samples ≤ s) × Small o s ms

unfoldable Places : ℕ → List Delivered → Type 0
Places o [] = Unit {0}
Places o (f ∷ fs) = (f.place ≤ o) × Places o fs

marks-small : (i before : ℕ) (fs : List Delivered) (o s : ℕ) → Places o fs → before + length (samples_kept fs) ≤ s
    → Small o s (marks_from i before fs)
unfolding marks_from samples_kept Small Places
marks-small i before [] o s h g = tt
marks-small i before (f ∷ fs) o s h g =
    let l = length-append f.found.samples (samples_kept fs) in
    let more = before + length f.found.samples in
    go (is_marked i) (marks_from (i + 1) more fs) (marks-small (i + 1) more fs o s h.1 (omega arith))
  where
    go : (b : Bool) (ms : List Mark) → Small o s ms → Small o s (cond b (mark_of f.place before ∷ ms) ms)
    go true ms m = (h.0, omega arith, m)
    go false ms m = m

module _ (octets : List ℕ) (law set : ℕ) where
  places_of : {n at room : ℕ} {w : Walked} → Walks octets law set n at room w → Places (length octets) w.frames
  unfolding Places
  places_of last = tt
  places_of (ended h) = tt
  places_of (refused h e) = tt
  places_of {n = suc n} {at} {room} (delivers h e t) = (omega arith, places_of t)

pub note-small : (law : ℕ) (xs : List ℕ) → ((note_of law xs).samples ≤ 320 * length xs) × Small (length xs) (320 * length xs)
    (note_of law xs).marks
unfolding marks_from samples_kept Small
note-small law xs = go (dec_lt most_law law) (dec_lt longest (length xs))
  where
    go : Dec (most_law < law) → Dec (longest < length xs)
        → ((note_of law xs).samples ≤ 320 * length xs) × Small (length xs) (320 * length xs) (note_of law xs).marks
    go (yes l) d = rw (no-law law xs l) (omega arith, tt)
    go (no l) (yes h) = rw (too_long law xs (omega arith) h) (omega arith, tt)
    go (no l) (no h) =
        let t = walk-told xs law store_set (length xs + 1) 0 (320 * length xs) in
        let p = places_of xs law store_set (walks xs law store_set (length xs + 1) 0 (320 * length xs)) in
        rw (walk-of law xs (omega arith) (omega arith))
        (t.fits, marks-small 0 0 _ (length xs) (320 * length xs) p (omega (arith, t.fits)))
