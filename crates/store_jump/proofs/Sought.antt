-- What is sought among frames after others: frames that end at or before the sample are passed (`seek-skip`), and frames behind the one
-- that holds it do not matter (`seek-within`). A sample that the frames have is found, in the frame that holds it (`seek_finds`), and in no
-- other (`holds-only`); the frame is one of those given (`seek-near`), so that of at most 64 frames from a mark the frames read are told by
-- the frame alone (`counted-named`).
use Prim.Native.Nat.{ℕ, suc, ◌+◌, ◌*◌, ◌-◌, ◌≤◌, ◌<◌}
use mathlib.Core.Path.{◌≡◌, refl, sym, ap, subst, ◌∙◌}
use mathlib.Core.List.{List, [], ◌∷◌, ◌++◌}
use mathlib.Core.Bool.{Bool, true, false, cond}
use native.Mathlib.Omega.{arith}
use lib.ListN.{length, length-append}
use lib.Dec.{ltb}
use borrow.Author.Tests.{ltb-true, ltb-false}
use Rattle.std.proofs.Common.{Some, None, Ok}
use Rattle.rules.specs.Walk.{Delivered, samples_kept}
use Rattle.store_jump.specs.Seeking.{Sought, seek, Holds}
use Rattle.store_jump.specs.Jump.{told_by, named, counted}
use Rattle.store_jump.proofs.Along.{seek-here, seek-past}

pub seek-skip : (sample i before : ℕ) (a b : List Delivered) → before + length (samples_kept a) ≤ sample
    → seek sample i before (a ++ b) ≡ seek sample (i + length a) (before + length (samples_kept a)) b
unfolding samples_kept
seek-skip sample i before [] b h = let e : i + 0 ≡ i = omega arith in let f : before + 0 ≡ before = omega arith in rw (e, f)
seek-skip sample i before (f ∷ a) b h =
    let s = length-append f.found.samples (samples_kept a) in
    let e : i + 1 + length a ≡ i + suc (length a) = omega arith in
    let g : before + length f.found.samples + length (samples_kept a) ≡ before + length (f.found.samples ++ samples_kept a) =
    omega (arith, s) in
    seek-past sample i before f (a ++ b) (omega (arith, s))
    ∙ seek-skip sample (i + 1) (before + length f.found.samples) a b (omega (arith, s))
    ∙ ap (λ (k : ℕ). seek sample k (before + length f.found.samples + length (samples_kept a)) b) e
    ∙ ap (λ (k : ℕ). seek sample (i + suc (length a)) k b) g

pub seek-within : (sample i before : ℕ) (a b : List Delivered) → before ≤ sample → sample < before + length (samples_kept a)
    → seek sample i before (a ++ b) ≡ seek sample i before a
unfolding samples_kept
seek-within sample i before [] b l h = absurd (omega arith)
seek-within sample i before (f ∷ a) b l h = by (ltb sample (before + length f.found.samples)) refl
    (seek-within sample (i + 1) (before + length f.found.samples) a b)
  where
    here : ℕ
    here = before + length f.found.samples

    by : (t : Bool) → ltb sample here ≡ t → (here ≤ sample → sample < here + length (samples_kept a)
        → seek sample (i + 1) here (a ++ b) ≡ seek sample (i + 1) here a)
        → seek sample i before (f ∷ (a ++ b)) ≡ seek sample i before (f ∷ a)
    by true e later =
        let m = ltb-true sample here e in seek-here sample i before f (a ++ b) m ∙ sym (seek-here sample i before f a m)
    by false e later =
        let m = ltb-false sample here e in
        seek-past sample i before f (a ++ b) m ∙ later m (omega (arith, h, length-append f.found.samples (samples_kept a)))
        ∙ sym (seek-past sample i before f a m)

-- a sample that the frames have, in the frame that holds it; the first of them is frame i
record Seen (sample i before : ℕ) (fs : List Delivered) : Type 0 where
  passed : List Delivered
  frame : Delivered
  rest : List Delivered
  are : fs ≡ passed ++ (frame ∷ rest)
  low : before + length (samples_kept passed) ≤ sample
  high : sample < before + length (samples_kept passed) + length frame.found.samples
  is : seek sample i before fs ≡ Some ((i + length passed), frame.place, (sample - (before + length (samples_kept passed))))

seen_here : (sample i before : ℕ) (f : Delivered) (fs : List Delivered) → before ≤ sample → sample < before + length f.found.samples
    → Seen sample i before (f ∷ fs)
unfolding samples_kept
seen_here sample i before f fs l h =
    let e : i + 0 ≡ i = omega arith in
    let g : before + 0 ≡ before = omega arith in
    record {
      passed = [];
      frame = f;
      rest = fs;
      are = refl;
      low = omega arith;
      high = omega arith;
      is = rw (e, g) (seek-here sample i before f fs h);
    }

seen-on : (sample i before : ℕ) (f : Delivered) (fs : List Delivered) → before + length f.found.samples ≤ sample
    → Seen sample (i + 1) (before + length f.found.samples) fs → Seen sample i before (f ∷ fs)
unfolding samples_kept
seen-on sample i before f fs l s =
    let k = length-append f.found.samples (samples_kept s.passed) in
    let e : i + 1 + length s.passed ≡ i + suc (length s.passed) = omega arith in
    let g : before + length f.found.samples + length (samples_kept s.passed) ≡ before + length
    (f.found.samples ++ samples_kept s.passed)
    = omega (arith, k) in
    record {
      passed = f ∷ s.passed;
      frame = s.frame;
      rest = s.rest;
      are = ap (λ (x : List Delivered). f ∷ x) s.are;
      low = omega (arith, s.low, k);
      high = omega (arith, s.high, k);
      is = seek-past sample i before f fs l ∙ rw (e, g) at s.is;
    }

seen : (sample i before : ℕ) (fs : List Delivered) → before ≤ sample → sample < before + length (samples_kept fs) → Seen sample i before fs
unfolding samples_kept
seen sample i before [] l h = absurd (omega arith)
seen sample i before (f ∷ fs) l h = by (ltb sample here) refl (seen sample (i + 1) here fs)
  where
    here : ℕ
    here = before + length f.found.samples

    by : (t : Bool) → ltb sample here ≡ t → (here ≤ sample → sample < here + length (samples_kept fs) → Seen sample (i + 1) here fs)
        → Seen sample i before (f ∷ fs)
    by true e later = seen_here sample i before f fs l (ltb-true sample here e)
    by false e later =
        let m = ltb-false sample here e in
        seen-on sample i before f fs m (later m (omega (arith, h, length-append f.found.samples (samples_kept fs))))

pub record Found (sample : ℕ) (fs : List Delivered) : Type 0 where
  pub frame : ℕ
  pub place : ℕ
  pub inside : ℕ
  pub is : seek sample 0 0 fs ≡ Some (frame, place, inside)
  pub holds : Holds fs sample frame place inside

pub seek_finds : (sample : ℕ) (fs : List Delivered) → sample < length (samples_kept fs) → Found sample fs
seek_finds sample fs h =
    let s = seen sample 0 0 fs (omega arith) (omega arith) in
    let k = length (samples_kept s.passed) in
    record {
      frame = 0 + length s.passed;
      place = s.frame.place;
      inside = sample - (0 + k);
      is = s.is;
      holds = record {
        before = s.passed;
        named = s.frame;
        behind = s.rest;
        are = s.are;
        count = omega arith;
        octets = refl;
        within = omega (arith, s.low, s.high);
        sum = omega (arith, s.low);
      };
    }

-- no other frame holds it
pub holds-only : (sample : ℕ) (fs : List Delivered) {frame place inside : ℕ} → Holds fs sample frame place inside
    → seek sample 0 0 fs ≡ Some (frame, place, inside)
holds-only sample fs {frame} {place} {inside} h =
    let k = length (samples_kept h.before) in
    let e : sample - (0 + k) ≡ inside = omega (arith, h.sum) in
    let f : 0 + length h.before ≡ frame = omega (arith, h.count) in
    ap (seek sample 0 0) h.are ∙ seek-skip sample 0 0 h.before (h.named ∷ h.behind) (omega (arith, h.sum))
    ∙ seek-here sample (0 + length h.before) (0 + k) h.named h.behind (omega (arith, h.sum, h.within))
    ∙ ap (λ (x : ℕ). Some (x, h.named.place, (sample - (0 + k)))) f ∙ ap (λ (x : ℕ). Some (frame, h.named.place, x)) e
    ∙ ap (λ (x : ℕ). Some (frame, x, inside)) (sym h.octets)

-- the frame is one of those given
abbrev Near : ℕ → ℕ → Sought → Type 0
Near i n (Some (frame, place, inside)) = (i ≤ frame) × (frame < i + n)
Near i n None = Unit {0}

near_on : (i n : ℕ) (s : Sought) → Near (i + 1) n s → Near i (suc n) s
near_on i n (Some (frame, place, inside)) h = (omega (arith, h.0), omega (arith, h.1))
near_on i n None h = tt

near : (sample i before : ℕ) (fs : List Delivered) → Near i (length fs) (seek sample i before fs)
unfolding seek
near sample i before [] = tt
near sample i before (f ∷ fs) = by (ltb sample here) (near sample (i + 1) here fs)
  where
    here : ℕ
    here = before + length f.found.samples

    by : (t : Bool) → Near (i + 1) (length fs) (seek sample (i + 1) here fs)
        → Near i (suc (length fs)) (cond t (Some (i, f.place, (sample - before))) (seek sample (i + 1) here fs))
    by true later = (omega arith, omega arith)
    by false later = near_on i (length fs) (seek sample (i + 1) here fs) later

pub seek-near : (sample i before : ℕ) (fs : List Delivered) {frame place inside : ℕ} → seek sample i before fs ≡ Some (frame, place, inside)
    → (i ≤ frame) × (frame < i + length fs)
seek-near sample i before fs e = subst (Near i (length fs)) e (near sample i before fs)

-- from frame 64 * k on, fewer than 64 frames further, the remainder by 64 counts the frames from there
counted-near : (k n : ℕ) → n ≤ 64 → (s : Sought) → Near (64 * k) n s → counted s ≡ named k s
counted-near k n h (Some (frame, place, inside)) l = ap (λ (x : ℕ). Ok (told_by frame place inside x)) (omega (arith, l.0, l.1))
counted-near k n h None l = refl

pub counted-named : (sample k before : ℕ) (fs : List Delivered) → length fs ≤ 64
    → counted (seek sample (64 * k) before fs) ≡ named k (seek sample (64 * k) before fs)
counted-named sample k before fs h = counted-near k (length fs) h (seek sample (64 * k) before fs) (near sample (64 * k) before fs)
