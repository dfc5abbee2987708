-- A walk by another room. A frame that is accepted is so with any room that holds it (`read-in-room`); so is a walk that ends clean
-- (`walk-in-room`), and a walk with more room delivers the same frames first (`more_room`).
use Prim.Native.Nat.{ℕ, ◌+◌, ◌-◌, ◌≤◌, zero-le}
use native.Mathlib.Omega.{arith}
use mathlib.Core.Path.{◌≡◌, refl, sym, ap, ◌∙◌}
use mathlib.Core.List.{List, ◌∷◌, ◌++◌}
use mathlib.Core.Bool.{true, not}
use lib.ListN.{length, length-append}
use lib.Dec.{ltb}
use borrow.Author.Tests.{le-ltb}
use Rattle.rules.specs.declared.Refusal.TheVariants.{Tool, Room, Set, Law}
use Rattle.std.proofs.Common.{Ok}
use Rattle.rules.specs.Tools.{holds, is_set, is_law, is_length}
use Rattle.rules.proofs.Tests.{and_left}
use Rattle.rules.proofs.Firsts.{as_written, first-as-written}
use Rattle.rules.specs.Bits.{bits_of, fill_for}
use Rattle.rules.specs.Reading.{whole, Reader, and_then, bit, number, filled}
use Rattle.rules.specs.Zeros.{plus_minus}
use Rattle.rules.specs.First.{First, unassigned, pad, tool, fractional_row, six_or_eight, first_octet, mark_at, six_not_eight}
use Rattle.rules.specs.Frame.{Found, with_tool, after_first, frame, read_one}
use Rattle.rules.specs.Walk.{Delivered, Walked, samples_kept}
use Rattle.rules.proofs.Octets.{Below, Sized, bits_of-below}
use Rattle.rules.proofs.Signed.{LawMask, law-mask}
use Rattle.rules.proofs.Gives.{Gives, gives-number, no-refusal, same-value}
use Rattle.rules.proofs.Accepted.{Steps, through, steps, not-refused, filled_is, gives-body}
use Rattle.rules.proofs.Accepted.{gives-fractional, gives-plus_minus, number-next, read-accepts}
use Rattle.promises.proofs.Further.{mark-first}
use Rattle.promises.proofs.Walks.{WalkOf, ended, refused, delivers}

module _ {mask : ℕ} (l : LawMask mask) (set room room' : ℕ) {b : List ℕ} (z : Below 2 b) {f : Found} {j : ℕ}
    (k : length f.samples ≤ room') where
  tool-in-room : (t n i : ℕ) {r : Reader (List ℕ)} → Gives r (Sized 256 n) → i ≤ length b → with_tool set room t n r b i ≡ whole f j
      → with_tool set room' t n r b i ≡ whole f j
  unfolding with_tool
  tool-in-room t n i {r} gives h e =
      let p = not-refused (not (holds set t)) (Tool t) 0 _ b i e in
      let q = not-refused (ltb room n) Room 0 _ b i p.1 in
      let m = go (steps (r b i) _ q.1) in
      rw (p.0, le-ltb room' n m) q.1
    where
      done : List ℕ → ℕ → Found
      done s k = record { tool = t; samples = s; bits = k }

      go : Steps (r b i) (λ s k. filled (done s k) (fill_for k) b k) f j → n ≤ room'
      go (through s i' q e) =
          let g = gives.on z h q in
          let w = filled_is (done s i') (fill_for i') b i' e in
          omega (arith, g.2.size, ap (λ (x : Found). length x.samples) w.0)

  first-in-room : (o : ℕ) (first : First) → as_written o first ≡ true → 8 ≤ length b → after_first mask set room first b 8 ≡ whole f j
      → after_first mask set room' first b 8 ≡ whole f j
  unfolding after_first
  first-in-room o unassigned w h e = no-refusal e
  first-in-room o pad w h e = e
  first-in-room o (tool t n) w h e = tool-in-room t n 8 (gives-body l t n (and_left (is_length n) _ w)) h e
  first-in-room o (fractional_row k n) w h e = tool-in-room 11 n 8 (gives-fractional l k n (and_left (is_length n) _ w)) h e
  first-in-room o (six_or_eight n) w h e = marked (steps (bit b (mark_at n)) _ e)
    where
      six : (mark i : ℕ) → bit b (mark_at n) ≡ whole mark i
          → Steps (six_not_eight b i) (λ t j. with_tool set room t n (plus_minus mask n mark) b (mark_at n + 1)) f j → and_then (bit b (mark_at n))
          (λ mark i. and_then (six_not_eight b i) (λ t j. with_tool set room' t n (plus_minus mask n mark) b (mark_at n + 1))) ≡ whole f j
      six mark i p (through t x q e) =
          rw (p, q) (tool-in-room t n (mark_at n + 1) (gives-plus_minus l n mark) (omega (arith, mark-first n)) e)

      marked : Steps (bit b (mark_at n)) (λ mark i. and_then (six_not_eight b i) (λ t j. with_tool set room t n (plus_minus mask n mark) b (mark_at n + 1))) f j
          → and_then (bit b (mark_at n))
          (λ mark i. and_then (six_not_eight b i) (λ t j. with_tool set room' t n (plus_minus mask n mark) b (mark_at n + 1))) ≡ whole f j
      marked (through mark i p e) = six mark i p (steps (six_not_eight b i) _ e)

  frame-in-room : frame mask set room b 0 ≡ whole f j → frame mask set room' b 0 ≡ whole f j
  unfolding frame
  frame-in-room e = go (steps (number 8 b 0) _ e)
    where
      go : Steps (number 8 b 0) (λ o k. after_first mask set room (first_octet o) b k) f j
          → and_then (number 8 b 0) (λ o k. after_first mask set room' (first_octet o) b k) ≡ whole f j
      go (through o k p e) =
          let g = (gives-number 8).on z zero-le p in
          let n : 8 ≡ k = number-next 0 8 b 0 p in
          rw (p, ← n) (first-in-room o (first_octet o) (first-as-written o g.2) (omega (arith, g.1)) (rw (← n) at e))

pub read-in-room : (octets : List ℕ) (law set room room' : ℕ) {f : Found} {j : ℕ} → read_one octets law set room ≡ whole f j
    → length f.samples ≤ room' → read_one octets law set room' ≡ whole f j
unfolding read_one
read-in-room octets law set room room' e k =
    let p = not-refused (not (is_law law)) Law 0 _ (bits_of octets) 0 e in
    let q = not-refused (not (is_set set)) Set 0 _ (bits_of octets) 0 p.1 in
    rw (p.0, q.0) (frame-in-room (law-mask law) set room room' (bits_of-below octets) k q.1)

-- a walk that ends clean
pub walk-in-room : {octets : List ℕ} {law set at room : ℕ} {w : Walked} (room' : ℕ) → WalkOf octets law set at room w → w.end ≡ Ok tt
    → length (samples_kept w.frames) ≤ room' → WalkOf octets law set at room' w
unfolding samples_kept
walk-in-room room' (ended h) e k = ended h
walk-in-room room' (refused h d) e k = let z : ◌≡◌ {A = ℕ} 0 1 = cc in absurd (omega arith)
walk-in-room {octets} {law} {set} {at} {room} room' (delivers {f = f} {rest = w} h d t) e k =
    let s = length-append f.samples (samples_kept w.frames) in
    delivers {at = at} h (read-in-room _ law set room room' d (omega arith)) (walk-in-room (room' - length f.samples) t e (omega arith))

-- these frames, and perhaps more
pub data StartsWith (frames all : List Delivered) : Type 0 where
  more : (rest : List Delivered) → all ≡ frames ++ rest → StartsWith frames all

one_more : (d : Delivered) {a b : List Delivered} → StartsWith a b → StartsWith (d ∷ a) (d ∷ b)
one_more d (more rest e) = more rest (ap (λ (x : List Delivered). d ∷ x) e)

-- a walk with more room
pub more_room : {octets : List ℕ} {law set at room room' : ℕ} {w v : Walked} → WalkOf octets law set at room w → room ≤ room'
    → WalkOf octets law set at room' v → StartsWith w.frames v.frames
more_room {v = v} (ended h) r t = more v.frames refl
more_room {v = v} (refused h d) r t = more v.frames refl
more_room (delivers h d t) r (ended g) = absurd (omega arith)
more_room {octets} {law} {set} {at} {room} {room'} (delivers h d t) r (refused g e) =
    no-refusal (sym e ∙ read-in-room _ law set room room' d (omega (arith, (read-accepts _ law set room d).fits)))
more_room {octets} {law} {set} {at} {room} {room'} (delivers {f = f} h d t) r (delivers {f = f'} {rest = v} g e u) =
    let same : f' ≡ f = same-value (sym e ∙ read-in-room _ law set room room' d (omega (arith, (read-accepts _ law set room d).fits))) in
    rw same (one_more _ (more_room t (omega arith) (rw same at u)))
