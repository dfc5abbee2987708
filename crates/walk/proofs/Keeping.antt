-- A walk on its way that keeps its samples: it goes along (Along), and the samples of the frames passed stand at the output's start.
use Prim.Native.Nat.{ℕ, ◌+◌, ◌-◌, ◌<◌}
use mathlib.Core.Path.{◌≡◌, refl, sym, ap, subst, ◌∙◌}
use mathlib.Core.List.{List, []}
use native.Mathlib.Omega.{arith}
use lib.ListN.{length, drop}
use Rattle.rules.specs.declared.Refusal.{Refusal}
use Rattle.std.proofs.Common.{Ok, Err}
use Rattle.rules.specs.declared.WalkAnswer.{WalkAnswer}
use Rattle.rules.specs.Reading.{Read}
use Rattle.rules.specs.Frame.{Found, read_one}
use Rattle.rules.specs.Walk.{Delivered, stopped, octets_kept, samples_kept}
use Rattle.rules.specs.Calls.{read_samples, at_start, Walks}
use Rattle.rules.proofs.Walk.{samples_kept-more}
use Rattle.rules.proofs.Lent.{Lent, lent-start, lent_length, lent-at-start, lent_same, lent-more}
use Rattle.reader.specs.declared.Report.{Report}
use Rattle.reader.specs.Answers.{ReadsInto}
use Rattle.walk.specs.Counting.{Steps, Counts}
use Rattle.walk.proofs.Told.{Bounds, accepted, refused}
use Rattle.walk.proofs.Along.{answer_of, walked, Along, along-start, along-refused, along-bounds, along-turn}

-- a walk that is refused before any frame keeps nothing
pub walks-none : (why : Refusal) (out : List ℕ) → Walks (stopped (Err why) 0 0) (answer_of (Err why) 0 0 0 0 0) out out
unfolding octets_kept samples_kept
walks-none why out = record { end = refl; frames = refl; octets = refl; samples = refl; place = refl; bit = refl; lent = refl }

module _ (octets : List ℕ) (law set fuel from : ℕ) (out₀ : List ℕ) where
  pub record Keeping (out : List ℕ) (at to count : ℕ) : Type 0 where
    pub done : List Delivered
    pub along : Along octets law set fuel from (length out₀) done at (length out₀ - to) count
    pub kept : Lent out₀ (samples_kept done) out to

  pub keep-start : Keeping out₀ from 0 0
  unfolding samples_kept
  keep-start =
      let e : length out₀ - 0 ≡ length out₀ = omega arith in
      record { done = []; along = rw e (along-start octets law set fuel from (length out₀)); kept = lent-start out₀ }

  module _ {out : List ℕ} {at to count : ℕ} (w : Keeping out at to count) where
    pub keep-size : to ≡ length out₀ - (length out₀ - to)
    keep-size = omega (arith, w.kept.room)

    -- what is counted is kept
    pub keeps : {r : WalkAnswer} → ((walked octets law set fuel from (length out₀)).frames ≡ w.done) × Counts
        (walked octets law set fuel from (length out₀)) r → Walks (walked octets law set fuel from (length out₀)) r out₀ out
    keeps (f, c) =
        record {
          end = c.end;
          frames = c.frames;
          octets = c.octets;
          samples = c.samples;
          place = c.place;
          bit = c.bit;
          lent = rw f (lent-at-start w.kept);
        }

    -- a step, as its answer says
    module _ (g : count < fuel) (h : at < length octets) {out' : List ℕ} {r : Report} (s : Steps octets law set at to out out' r) where
      reads : ReadsInto (read_one (drop at octets) law set (length out₀ - to)) r (drop to out) s.rest
      reads = rw (lent_length w.kept) at s.reads

      -- a frame that is refused
      pub keep-refused : (why : Refusal) → r.end ≡ Err why
          → Walks (walked octets law set fuel from (length out₀)) (answer_of (Err why) count (at - from) to at r.bit) out₀ out'
      keep-refused why e =
          let same = lent_same w.kept s.lent
          (reads.lent ∙ ap (λ (x : Read Found). at_start (read_samples x) (drop to out)) (refused reads.tells e)) in
          subst (λ (x : List ℕ). Walks (walked octets law set fuel from (length out₀))
          (answer_of (Err why) count (at - from) to at r.bit) out₀ x) (sym same)
          (keeps (along-refused octets law set fuel from (length out₀) w.along keep-size g h reads.tells why e))

      -- a frame that is accepted
      pub keep-bounds : r.end ≡ Ok tt → Bounds (drop at octets) (length out₀ - to) r
      keep-bounds e = along-bounds octets law set fuel from (length out₀) w.along g h reads.tells e

      pub keep-turn : r.end ≡ Ok tt → Keeping out' (at + r.octets) (to + r.len) (count + 1)
      keep-turn e =
          let a = accepted reads.tells e in
          record {
            done = _;
            along = along-turn octets law set fuel from (length out₀) w.along g h reads.tells e (omega (arith, (keep-bounds e).fits));
            kept =
                rw samples_kept-more (lent-more w.kept s.lent a.frame.samples a.tells.len (keep-bounds e).fits
                (reads.lent ∙ ap (λ (x : Read Found). at_start (read_samples x) (drop to out)) a.is));
          }
