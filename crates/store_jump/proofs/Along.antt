-- Seeking on its way: what is sought among the frames left is what is sought among all. `seek-start`, `seek-turn`; where it stops:
-- `seek_found`, `seek-refused`, `seek-ended`, `seek-last`.
use Prim.Native.Nat.{ℕ, ◌+◌, ◌-◌, ◌≤◌, ◌<◌}
use mathlib.Core.Path.{◌≡◌, refl, sym, ap, ◌∙◌}
use mathlib.Core.List.{List, [], ◌∷◌}
use native.Mathlib.Omega.{arith}
use lib.ListN.{length, drop}
use borrow.Author.Tests.{lt-ltb, le-ltb}
use Rattle.rules.specs.declared.Refusal.{Refusal}
use Rattle.std.proofs.Common.{Ok, Err, Some, None}
use Rattle.rules.specs.Frame.{read_one}
use Rattle.rules.specs.Walk.{Delivered, Walked, walk_from}
use Rattle.rules.proofs.Walk.{walk-last, walk-ended, walk-off, walk-one}
use Rattle.store_greeting.specs.Bad.{store_set}
use Rattle.reader.specs.declared.Report.{Report}
use Rattle.reader.specs.Answers.{Tells}
use Rattle.walk.proofs.Told.{Bounds, accepted, refused, read-bounds}
use Rattle.store_jump.specs.Seeking.{Sought, seek, from_mark}

-- the steps of the definition: no frame, the frame that holds the sample, a frame before it
pub seek-none : (sample i before : ℕ) → seek sample i before [] ≡ None
unfolding seek
seek-none sample i before = refl

module _ (sample i before : ℕ) (f : Delivered) (fs : List Delivered) where
  pub seek-here : sample < before + length f.found.samples → seek sample i before (f ∷ fs) ≡ Some (i, f.place, (sample - before))
  unfolding seek
  seek-here h = rw (lt-ltb sample (before + length f.found.samples) h)

  pub seek-past : before + length f.found.samples ≤ sample
      → seek sample i before (f ∷ fs) ≡ seek sample (i + 1) (before + length f.found.samples) fs
  unfolding seek
  seek-past h = rw (le-ltb sample (before + length f.found.samples) h)

module _ (octets : List ℕ) (law from first before sample : ℕ) where
  abbrev pub sought : Sought
  sought = seek sample first before (from_mark law octets from).frames

  -- n frames are passed; the next one stands at `at`
  pub record Along (buffer : List ℕ) (at left passed n : ℕ) : Type 0 where
    pub same : sought ≡ seek sample (first + n) passed (walk_from (64 - n) octets law store_set at left).frames
    pub few : n ≤ 64
    pub room : passed + left ≡ before + 20480
    pub behind : passed ≤ sample
    pub size : length buffer ≡ 320

  pub seek-start : {buffer : List ℕ} → before ≤ sample → length buffer ≡ 320 → Along buffer from 20480 before 0
  seek-start h s =
      let e : first ≡ first + 0 = omega arith in
      record {
        same = ap (λ (k : ℕ). seek sample k before (from_mark law octets from).frames) e;
        few = omega arith;
        room = refl;
        behind = h;
        size = s;
      }

  module _ {buffer : List ℕ} {at left passed n : ℕ} (w : Along buffer at left passed n) where
    -- no frame is left
    stop : {x : Walked} → walk_from (64 - n) octets law store_set at left ≡ x → x.frames ≡ [] → None ≡ sought
    stop q e = sym (w.same ∙ ap (λ (x : List Delivered). seek sample (first + n) passed x) (ap (λ (x : Walked). x.frames) q ∙ e)
        ∙ seek-none sample (first + n) passed)

    pub seek-ended : length octets ≤ at → None ≡ sought
    seek-ended h = stop (walk-ended octets law store_set (64 - n) at left h) refl

    pub seek-last : 64 ≤ n → None ≡ sought
    seek-last h = stop (walk-last octets law store_set (64 - n) at left (omega arith)) refl

    module _ (g : n < 64) (h : at < length octets) {r : Report} (t : Tells (read_one (drop at octets) law store_set left) r) where
      pub seek-refused : (why : Refusal) → r.end ≡ Err why → None ≡ sought
      seek-refused why e =
          stop (walk-off octets law store_set (64 - n) (64 - (n + 1)) at left (omega arith) h r.bit why (refused t e)) refl

      module _ (e : r.end ≡ Ok tt) where
        pub seek-bounds : Bounds (drop at octets) left r
        seek-bounds = read-bounds (drop at octets) law store_set left t e

        abbrev frame : Delivered
        frame = record { place = at; found = (accepted t e).frame }

        abbrev rest : List Delivered
        rest = (walk_from (64 - (n + 1)) octets law store_set (at + r.octets) (left - r.len)).frames

        one : sought ≡ seek sample (first + n) passed (frame ∷ rest)
        one =
            let a = accepted t e in
            w.same ∙ ap (λ (x : Walked). seek sample (first + n) passed x.frames)
            (walk-one octets law store_set (64 - n) (64 - (n + 1)) at left (omega arith) h (at + r.octets) (left - r.len)
            a.frame a.is
            (omega (arith, a.tells.octets)) (omega (arith, a.tells.len)))

        pub seek_found : sample < passed + r.len → Some ((first + n), at, (sample - passed)) ≡ sought
        seek_found l = sym (one ∙ seek-here sample (first + n) passed frame rest (omega (arith, (accepted t e).tells.len)))

        pub seek-turn : {buffer' : List ℕ} → passed + r.len ≤ sample → length buffer' ≡ 320
            → Along buffer' (at + r.octets) (left - r.len) (passed + r.len) (n + 1)
        seek-turn l s =
            let m : r.len ≡ length (accepted t e).frame.samples = (accepted t e).tells.len in
            let k : first + n + 1 ≡ first + (n + 1) = omega arith in
            record {
              same =
                  one ∙ seek-past sample (first + n) passed frame rest (omega (arith, m))
                  ∙ ap (λ (x : ℕ). seek sample x (passed + length (accepted t e).frame.samples) rest) k
                  ∙ ap (λ (x : ℕ). seek sample (first + (n + 1)) (passed + x) rest) (sym m);
              few = omega arith;
              room = omega (arith, w.room, seek-bounds.fits);
              behind = l;
              size = s;
            }
