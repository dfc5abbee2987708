-- A walk on its way, one invariant for both loops: the frames passed, put before the walk of the rest, are the whole walk.
-- `along-start`, `along-turn`; where it stops: `along-ended`, `along-last`, `along-refused`.
use Prim.Native.Nat.{ℕ, ◌+◌, ◌-◌, ◌≤◌, ◌<◌}
use mathlib.Core.Path.{◌≡◌, refl, sym, ap, subst, ◌∙◌}
use mathlib.Core.List.{List, [], ◌∷◌, ◌++◌, append-nil}
use native.Mathlib.Omega.{arith}
use lib.ListN.{length, drop, length-append}
use Rattle.rules.specs.declared.Refusal.{Refusal}
use Rattle.rules.specs.Refusals.{Ending}
use Rattle.std.proofs.Common.{Ok, Err}
use Rattle.rules.specs.declared.WalkAnswer.{WalkAnswer}
use Rattle.rules.specs.Frame.{read_one}
use Rattle.rules.specs.Walk.{Delivered, Walked, stopped, walk_from, octets_kept, samples_kept}
use Rattle.rules.proofs.Walk.{octets_kept-more, samples_kept-more, after, after-before, walk-last, walk-ended, walk-off, walk-one}
use Rattle.reader.specs.declared.Report.{Report}
use Rattle.reader.specs.Answers.{Tells}
use Rattle.walk.specs.Counting.{Counts}
use Rattle.walk.proofs.Told.{Bounds, accepted, refused, read-bounds}

-- what a walk answers that stopped at `at`
abbrev pub answer_of : Ending → ℕ → ℕ → ℕ → ℕ → ℕ → WalkAnswer
answer_of end frames octets samples place bit =
    record { end = end; frames = frames; octets = octets; samples = samples; place = place; bit = bit }

module _ (octets : List ℕ) (law set fuel from room : ℕ) where
  abbrev pub walked : Walked
  walked = walk_from fuel octets law set from room

  -- so many frames are passed; the next one stands at `at`, and so much room is left
  pub record Along (done : List Delivered) (at left count : ℕ) : Type 0 where
    pub is_whole : walked ≡ after done (walk_from (fuel - count) octets law set at left)
    pub frames : count ≡ length done
    pub octets-kept : at ≡ from + octets_kept done
    pub samples-kept : room ≡ left + length (samples_kept done)
    pub few : count ≤ fuel
    pub each : from + count ≤ at

  pub along-start : Along [] from room 0
  unfolding octets_kept samples_kept
  along-start =
      record {
        is_whole = let e : fuel - 0 ≡ fuel = omega arith in rw e;
        frames = refl;
        octets-kept = omega arith;
        samples-kept = omega arith;
        few = omega arith;
        each = omega arith;
      }

  module _ {done : List Delivered} {at left count samples : ℕ} (w : Along done at left count) (z : samples ≡ room - left) where
    -- where it stops, with no frame left
    along-stop : (e : Ending) (bit : ℕ) → walk_from (fuel - count) octets law set at left ≡ stopped e at bit
        → (walked.frames ≡ done) × Counts walked (answer_of e count (at - from) samples at bit)
    along-stop e bit q =
        subst (λ (x : Walked). (x.frames ≡ done) × Counts x (answer_of e count (at - from) samples at bit))
        (sym (w.is_whole ∙ ap (after done) q)) (
          append-nil done,
          record {
            end = refl;
            frames = rw append-nil w.frames;
            octets = rw append-nil (omega (arith, w.octets-kept));
            samples = rw append-nil (omega (arith, w.samples-kept));
            place = refl;
            bit = refl;
          },
        )

    pub along-ended : length octets ≤ at → (walked.frames ≡ done) × Counts walked (answer_of (Ok tt) count (at - from) samples at 0)
    along-ended h = along-stop (Ok tt) 0 (walk-ended octets law set (fuel - count) at left h)

    pub along-last : fuel ≤ count → (walked.frames ≡ done) × Counts walked (answer_of (Ok tt) count (at - from) samples at 0)
    along-last h = along-stop (Ok tt) 0 (walk-last octets law set (fuel - count) at left (omega arith))

    pub along-refused : count < fuel → at < length octets → {r : Report} → Tells (read_one (drop at octets) law set left) r
        → (why : Refusal) → r.end ≡ Err why
        → (walked.frames ≡ done) × Counts walked (answer_of (Err why) count (at - from) samples at r.bit)
    along-refused g h {r} t why e =
        along-stop (Err why) r.bit
        (walk-off octets law set (fuel - count) (fuel - (count + 1)) at left (omega arith) h r.bit why (refused t e))

  -- with a frame buffer that serves every frame
  pub record Passing (buffer : List ℕ) (at left count : ℕ) : Type 0 where
    pub done : List Delivered
    pub along : Along done at left count
    pub size : length buffer ≡ 320

  -- a frame that is read there and accepted
  module _ {done : List Delivered} {at left count : ℕ} (w : Along done at left count) (g : count < fuel) (h : at < length octets)
      {r : Report}
      (t : Tells (read_one (drop at octets) law set left) r) (e : r.end ≡ Ok tt) where
    abbrev pub passed : Delivered
    passed = record { place = at; found = (accepted t e).frame }

    pub along-bounds : Bounds (drop at octets) left r
    along-bounds = read-bounds (drop at octets) law set left t e

    pub along-turn : {left' : ℕ} → left' ≡ left - r.len → Along (done ++ (passed ∷ [])) (at + r.octets) left' (count + 1)
    along-turn {left'} m =
        let a = accepted t e in
        let next = walk-one octets law set (fuel - count) (fuel - (count + 1)) at left (omega arith) h (at + r.octets)
        left' a.frame a.is (omega (arith, a.tells.octets)) (omega (arith, a.tells.len)) in
        record {
          is_whole = w.is_whole ∙ ap (after done) next ∙ after-before done passed _;
          frames = omega (arith, w.frames, length-append done (passed ∷ []));
          octets-kept = omega (arith, w.octets-kept, a.tells.octets, octets_kept-more done passed);
          samples-kept = rw samples_kept-more
              (omega (arith, w.samples-kept, a.tells.len, along-bounds.fits, length-append (samples_kept done) a.frame.samples));
          few = omega arith;
          each = omega (arith, w.each, along-bounds.some);
        }
