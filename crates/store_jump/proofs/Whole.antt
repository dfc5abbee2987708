-- "The result is the one that a whole walk gives": in a greeting that is not BAD, with the note that the walk gives, a jump names the frame
-- that the whole walk gives (`jump-walks`). The mark that it begins at is the last one at or before the sample, fewer than 64 frames before
-- the frame named.
use Prim.Native.Nat.{ℕ, ◌+◌, ◌*◌, ◌-◌, ◌/◌, ◌≤◌, ◌<◌}
use mathlib.Core.Path.{◌≡◌, refl, sym, ap, subst, ◌∙◌}
use mathlib.Core.List.{List, [], ◌∷◌, ◌++◌, append_assoc, append-nil}
use mathlib.Core.Bool.{Bool, true, false, cond, not}
use native.Mathlib.Omega.{arith}
use native.Mathlib.Decide.{dec_lt}
use lib.ListN.{length, length-append}
use lib.Seq.{get_or-append-add}
use lib.Dec.{ltb}
use borrow.Author.Tests.{le-ltb, ltb-false, lt-leb, ne_eqb}
use Rattle.rules.specs.declared.Refusal.{Refusal}
use Rattle.std.proofs.Common.{Ok, Err, Some}
use Rattle.rules.specs.Refusals.{Ending}
use Rattle.rules.specs.Tools.{most_law}
use Rattle.rules.specs.Walk.{Delivered, Walked, walk_from, longest, samples_kept}
use Rattle.rules.proofs.Walk.{samples_kept-append, walk-told, walk-on, walk_kept, walk-fuel, walk-ended}
use Rattle.store_greeting.specs.Bad.{is_done, is_bad, walk_of, store_set}
use Rattle.store_greeting.proofs.Bad.{bad-law, bad-long, walk-of}
use Rattle.store_greeting.specs.Marks.{Mark, mark_of, marks_from, marks_of, note_of}
use Rattle.store_greeting.proofs.Marked.{marks-append}
use Rattle.store_greeting.proofs.Count.{marks-count}
use Rattle.store_greeting.proofs.Taking.{parts, next, Along, along-next, marks-next}
use Rattle.store_jump.specs.Seeking.{seek, by_walk, nth_mark, last_mark}
use Rattle.store_jump.proofs.LastMark.{LastAt, Rising, last-mark-is, last-mark-only}
use Rattle.store_jump.proofs.Sought.{seek-skip, seek-within, seek_finds, seek-near}
use Rattle.store_jump.specs.Jump.{told_by, named, jump_from, jump_in}
use Rattle.store_jump.specs.Whole.{Named}

-- what a greeting that is not BAD is
done-of : (e : Ending) → not (is_done e) ≡ false → e ≡ (Ok tt)
done-of (Ok _) h = refl
done-of (Err w) h = let z : ◌≡◌ {A = Bool} true false = h in cc

not-off : {w : Refusal} {A : Type 0} → ◌≡◌ {A = Ending} (Ok tt) (Err w) → A
not-off e = let z : ◌≡◌ {A = ℕ} 0 1 = cc in absurd (omega arith)

not-bad : {A : Type 0} → true ≡ false → A
not-bad e = let z : ◌≡◌ {A = ℕ} 0 1 = cc in absurd (omega arith)

module _ (law : ℕ) (xs : List ℕ) (good : is_bad law xs ≡ false) where
  abbrev frames : List Delivered
  frames = (walk_of law xs).frames

  abbrev marks : List Mark
  marks = marks_of frames

  sound : (1 ≤ length xs) × ((walk_of law xs).end ≡ (Ok tt))
  unfolding is_bad
  sound = go (ltb (length xs) 1) refl good
    where
      go : (t : Bool) → ltb (length xs) 1 ≡ t → cond t true (not (is_done (walk_of law xs).end)) ≡ false
          → (1 ≤ length xs) × ((walk_of law xs).end ≡ (Ok tt))
      go true e h = not-bad h
      go false e h = (ltb-false (length xs) 1 e, done-of (walk_of law xs).end h)

  lawful : law ≤ most_law
  lawful = go (dec_lt most_law law)
    where
      go : Dec (most_law < law) → law ≤ most_law
      go (no l) = omega arith
      go (yes l) = not-bad (bad-law law xs sound.0 l ∙ good)

  short : length xs ≤ longest
  short = go (dec_lt longest (length xs))
    where
      go : Dec (longest < length xs) → length xs ≤ longest
      go (no l) = omega arith
      go (yes l) = not-bad (bad-long law xs sound.0 lawful l ∙ good)

  -- the whole walk, one that more frames than octets are allowed
  more : (n : ℕ) → walk_of law xs ≡ walk_from (n + (length xs + 1)) xs law store_set 0 (320 * length xs)
  more n =
      walk-of law xs lawful short
      ∙ walk-fuel xs law store_set (length xs + 1) (n + (length xs + 1)) 0 (320 * length xs) (omega arith) (omega arith)

  -- the first 64 * k frames: they end clean, at the octets and samples before frame 64 * k
  clean : (k : ℕ) → (parts law xs k).end ≡ (Ok tt)
  clean k = go (parts law xs k).end refl
    where
      go : (e : Ending) → (parts law xs k).end ≡ e → e ≡ (Ok tt)
      go (Ok _) e = refl
      go (Err w) e =
          let all = more (64 * k) ∙ walk_kept xs law store_set (64 * k) (length xs + 1) 0 (320 * length xs) e in
          not-off (sym sound.1 ∙ ap (λ (x : Walked). x.end) all ∙ e)

  abbrev at : ℕ → ℕ
  at k = (parts law xs k).place

  abbrev before : ℕ → ℕ
  before k = length (samples_kept (parts law xs k).frames)

  -- all frames are those, and then the rest
  abbrev behind : ℕ → List Delivered
  behind k = (walk_from (length xs + 1) xs law store_set (at k) (320 * length xs - before k)).frames

  split : (k : ℕ) → frames ≡ (parts law xs k).frames ++ behind k
  split k =
      ap (λ (x : Walked). x.frames)
      (more (64 * k) ∙ walk-on xs law store_set (64 * k) (length xs + 1) 0 (320 * length xs) (clean k))

  -- none are left at the greeting's end
  ended : (k : ℕ) → length xs ≤ at k → frames ≡ (parts law xs k).frames
  ended k h =
      let none = walk-ended xs law store_set (length xs + 1) (at k) (320 * length xs - before k) h in
      split k ∙ ap (λ (x : Walked). (parts law xs k).frames ++ x.frames) none ∙ append-nil (parts law xs k).frames

  -- a greeting that goes on there has mark k there, and then 64 frames or as many as there are
  module _ (k : ℕ) (h : at k < length xs) where
    pub many : length (parts law xs k).frames ≡ 64 * k
    many = (walk-told xs law store_set (64 * k) 0 (320 * length xs)).full (clean k) h

    along : Along law xs k (at k) (before k)
    along = record { clean = clean k; place = refl; before = refl; count = marks-count (parts law xs k).frames ∙ omega (arith, many) }

    abbrev here : List Delivered
    here = (next law xs (at k)).frames

    then : (parts law xs (k + 1)).frames ≡ (parts law xs k).frames ++ here
    then = ap (λ (x : Walked). x.frames) (along-next law xs along h)

    clean-next : (next law xs (at k)).end ≡ (Ok tt)
    clean-next = sym (ap (λ (x : Walked). x.end) (along-next law xs along h)) ∙ clean (k + 1)

    before-next : before (k + 1) ≡ before k + length (samples_kept here)
    before-next =
        ap (λ (x : List Delivered). length (samples_kept x)) then ∙ ap length (samples_kept-append (parts law xs k).frames here)
        ∙ length-append (samples_kept (parts law xs k).frames) (samples_kept here)

    abbrev more-marks : List Mark
    more-marks = marks_from (0 + length (parts law xs (k + 1)).frames) (0 + before (k + 1)) (behind (k + 1))

    marks-are : marks ≡ marks_of (parts law xs k).frames ++ (mark_of (at k) (before k) ∷ more-marks)
    marks-are =
        ap marks_of (split (k + 1)) ∙ marks-append 0 0 (parts law xs (k + 1)).frames (behind (k + 1))
        ∙ ap (λ (x : List Mark). x ++ more-marks) (marks-next law xs along h clean-next)
        ∙ append_assoc (marks_of (parts law xs k).frames) (mark_of (at k) (before k) ∷ []) more-marks

    pub mark-is : nth_mark k marks ≡ mark_of (at k) (before k)
    mark-is =
        let p = marks_of (parts law xs k).frames in
        let e : k ≡ length p + 0 = omega (arith, along.count) in
        ap (nth_mark k) marks-are ∙ ap (λ (j : ℕ). nth_mark j (p ++ (mark_of (at k) (before k) ∷ more-marks))) e
        ∙ get_or-append-add p (mark_of (at k) (before k) ∷ more-marks) 0 (mark_of 0 0)

    pub mark-there : k < length marks
    mark-there =
        let p = marks_of (parts law xs k).frames in
        omega (arith, ap length marks-are, length-append p (mark_of (at k) (before k) ∷ more-marks), along.count)

  -- and a mark is there only where the greeting goes on
  pub marked : (k : ℕ) → k < length marks → at k < length xs
  marked k h = go (dec_lt (at k) (length xs))
    where
      go : Dec (at k < length xs) → at k < length xs
      go (yes l) = l
      go (no l) =
          let all = ap length (ended k (omega arith)) in
          absurd (omega (arith, marks-count frames, all, (walk-told xs law store_set (64 * k) 0 (320 * length xs)).few))

  -- samples never fall from mark to mark
  grows : (i j : ℕ) → i ≤ j → before i ≤ before j
  grows i j h =
      let e : 64 * j ≡ 64 * i + 64 * (j - i) = omega arith in
      let tail = (walk_from (64 * (j - i)) xs law store_set (at i) (320 * length xs - before i)).frames in
      let all : (parts law xs j).frames ≡ (parts law xs i).frames ++ tail =
      ap (λ (x : Walked). x.frames)
      (ap (λ (n : ℕ). walk_from n xs law store_set 0 (320 * length xs)) e
      ∙ walk-on xs law store_set (64 * i) (64 * (j - i)) 0 (320 * length xs) (clean i))
      in
      let sum = ap (λ (x : List Delivered). length (samples_kept x)) all ∙ ap length (samples_kept-append (parts law xs i).frames tail)
      ∙ length-append (samples_kept (parts law xs i).frames) (samples_kept tail) in
      omega (arith, sum)

  pub marks-rise : Rising marks
  marks-rise i j h l =
      let a = ap (λ (m : Mark). m.samples) (mark-is i (marked i (omega arith))) in
      let b = ap (λ (m : Mark). m.samples) (mark-is j (marked j l)) in
      omega (arith, a, b, grows i j h)

  none_before : before 0 ≡ 0
  unfolding walk_from samples_kept
  none_before = refl

  module _ (sample : ℕ) (h : sample < length (samples_kept frames)) where
    frame-there : 1 ≤ length frames
    frame-there =
        let all = ap (λ (x : Walked). x.frames) (more 0) in
        let t = walk-told xs law store_set (0 + (length xs + 1)) 0 (320 * length xs) in
        omega (arith, ap length all, ap (λ (x : List Delivered). length (samples_kept x)) all, t.held)

    some-mark : 1 ≤ length marks
    some-mark = omega (arith, marks-count frames, frame-there)

    abbrev k : ℕ
    k = last_mark marks sample

    last : LastAt marks sample k
    last =
        last-mark-is marks sample some-mark
        (omega (arith, ap (λ (m : Mark). m.samples) (mark-is 0 (marked 0 (omega (arith, some-mark)))), none_before))

    there : at k < length xs
    there = marked k last.among

    low : before k ≤ sample
    low = omega (arith, last.before, ap (λ (m : Mark). m.samples) (mark-is k there))

    -- the sample is in the frames from that mark on, up to the next mark
    high : sample < before k + length (samples_kept (here k there))
    high = go (dec_lt (at (k + 1)) (length xs))
      where
        go : Dec (at (k + 1) < length xs) → sample < before k + length (samples_kept (here k there))
        go (yes l) =
            omega (arith, last.next (mark-there (k + 1) l), ap (λ (m : Mark). m.samples) (mark-is (k + 1) l), before-next k there)
        go (no l) =
            omega (arith, h, ap (λ (x : List Delivered). length (samples_kept x)) (ended (k + 1) (omega arith)), before-next k there)

    same : by_walk law xs sample ≡ seek sample (64 * k) (before k) (here k there)
    same =
        let p = (parts law xs k).frames in
        let tail = behind (k + 1) in
        let all : frames ≡ p ++ (here k there ++ tail) =
        split (k + 1) ∙ ap (λ (x : List Delivered). x ++ tail) (then k there) ∙ append_assoc p (here k there) tail in
        let e : 0 + length p ≡ 64 * k = omega (arith, many k there) in
        let f : 0 + before k ≡ before k = omega arith in
        ap (seek sample 0 0) all ∙ seek-skip sample 0 0 p (here k there ++ tail) (omega (arith, low))
        ∙ ap (λ (n : ℕ). seek sample n (0 + before k) (here k there ++ tail)) e
        ∙ ap (λ (n : ℕ). seek sample (64 * k) n (here k there ++ tail)) f
        ∙ seek-within sample (64 * k) (before k) (here k there) tail low high

    pub jump-walks : jump_in xs (note_of law xs) sample ≡ named k (by_walk law xs sample)
    unfolding jump_in jump_from
    jump-walks =
        rw (
          lt-leb (length (samples_kept frames)) sample h,
          ne_eqb (length marks) 0 (λ z. absurd (omega (arith, z, some-mark))),
          mark-is k there,
          le-ltb sample (before k) low,
        ) (sym (ap (named k) same))

    -- the mark is that of frame 64 * (f / 64), and the last one at or before the sample
    pub mark-of : {frame place inside : ℕ} → by_walk law xs sample ≡ Some (frame, place, inside) → frame / 64 ≡ k
    mark-of e =
        let n = seek-near sample (64 * k) (before k) (here k there) (sym same ∙ e) in
        omega (arith, n.0, n.1, (walk-told xs law store_set 64 (at k) 20480).few)

-- a jump's answer, as a whole walk gives it
pub jump-named : (law : ℕ) (xs : List ℕ) → is_bad law xs ≡ false → (sample : ℕ) → sample < (note_of law xs).samples
    → Named law xs sample (jump_in xs (note_of law xs) sample)
jump-named law xs good sample h =
    let f = seek_finds sample (walk_of law xs).frames h in
    let ms = marks_of (walk_of law xs).frames in
    let m = subst (LastAt ms sample) (sym (mark-of law xs good sample h f.is)) (last law xs good sample h) in
    record {
      frame = f.frame;
      place = f.place;
      inside = f.inside;
      answer = jump-walks law xs good sample h ∙ ap (named (last_mark ms sample)) f.is
          ∙ ap (λ (k : ℕ). Ok (told_by f.frame f.place f.inside (f.frame - 64 * k + 1))) (sym (mark-of law xs good sample h f.is));
      holds = f.holds;
      mark = last-mark-only ms sample (marks-rise law xs good) m;
    }
