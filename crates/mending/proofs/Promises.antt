-- R-12's promises. What is kept is a beginning of the greeting that ends between frames, the longest that the walk accepts and that does
-- not pass the total (`kept`). The result is accepted and holds exactly the total (`holds-total`). "An undamaged greeting of the right
-- total comes back unchanged" (`undamaged`), "and mending twice changes nothing more" (`twice`). How a mending's walk
-- stopped is how the walk with room for the total stops (`why-walks`).
use Prim.Native.Nat.{ℕ, suc, ◌+◌, ◌-◌, ◌%◌, ◌≤◌}
use native.Mathlib.Omega.{arith}
use mathlib.Core.Path.{◌≡◌, refl, sym, ap, subst, ◌∙◌}
use mathlib.Core.List.{List, [], ◌++◌, append-nil}
use mathlib.Core.Bool.{true, ◌||◌}
use lib.ListN.{length, take, drop, replicate, length-append, length-replicate, take-append-drop}
use lib.Seq.{length-take-le, take_all}
use lib.Dec.{eqb, leb}
use borrow.Author.Tests.{eqb-true, leb-true}
use Rattle.std.proofs.Common.{Ok}
use Rattle.rules.specs.Tools.{all_tools, is_length}
use Rattle.rules.specs.Samples.{mask_of, plus_zero}
use Rattle.rules.specs.Walk.{Walked, walk_from, longest, walk_all, octets_kept, samples_kept}
use Rattle.rules.proofs.Walk.{octets_kept-append, samples_kept-append}
use Rattle.rules.proofs.Accepted.{read-accepts}
use Rattle.rules.proofs.Tests.{or_cases, by_length, and_left}
use Rattle.promises.proofs.Walks.{WalkOf, ended, refused, delivers, walk-of, walk-only, Walkable, walk-all, walk-all-of, walk-all-only}
use Rattle.promises.proofs.Refused.{Begins, walkable, unlawful, no-set, too_long, walk_begins}
use Rattle.mending.specs.Mend.{fill_by, walk_up_to, filling, filled_after, Mended, mended_by, mended, most_total, is_total, mends, mend_of}
use Rattle.mending.specs.Why.{why_of}
use Rattle.mending.proofs.Kept.{walk-within}
use Rattle.mending.proofs.Ordered.{why-mends, why-is}
use Rattle.mending.proofs.Rooms.{StartsWith, more, walk-in-room, more_room}
use Rattle.mending.proofs.Joined.{clean, joined, KeepsOwn, kept-walks}
use Rattle.mending.proofs.Filled.{filling-walks}
use Rattle.mending.proofs.Judged.{Mendable, made, mends-made}

-- the samples of whole frames are a multiple of 40
forty-of : (n : ℕ) → (eqb n 0 || is_length n) ≡ true → n % 40 ≡ 0
forty-of n h =
    or_cases (n % 40 ≡ 0) (eqb n 0) (is_length n) h (λ z. rw (eqb-true n 0 z) refl)
    (λ l. by_length (λ n. n % 40 ≡ 0) refl refl refl refl refl n l)

forty : {octets : List ℕ} {law set at room : ℕ} {w : Walked} → WalkOf octets law set at room w → length (samples_kept w.frames) % 40 ≡ 0
unfolding samples_kept
forty (ended h) = refl
forty (refused h e) = refl
forty {octets} {law} {set} {at} {room} (delivers {f = f} {rest = w} h e t) =
    let a = forty-of (length f.samples) (read-accepts _ law set room e).size in
    omega (arith, forty t, a, length-append f.samples (samples_kept w.frames))

-- "The result is accepted and holds exactly the total", v being the walk over it: its frames are those kept and then the filling, its
-- samples those kept and then plus zeros
pub record HoldsTotal (law total : ℕ) (m : Mended) (v : Walked) : Type 0 where
  pub end : v.end ≡ Ok tt
  pub place : v.place ≡ length m.octets
  pub frames : StartsWith m.walked.frames v.frames
  pub samples : samples_kept v.frames ≡ samples_kept m.walked.frames ++ replicate m.filled (plus_zero (mask_of law))
  pub total-is : length (samples_kept v.frames) ≡ total

-- what is kept of a greeting. `most`: no longer beginning of it is accepted by the walk and does not pass the total.
-- `same`: a walk over all of the greeting delivers these frames first.
pub record Kept (octets : List ℕ) (law total : ℕ) (m : Mended) : Type 0 where
  pub inside : octets_kept m.walked.frames ≤ length octets
  pub begins : m.octets ≡ take (octets_kept m.walked.frames) octets ++ filling m.filled
  pub walks : walk_all (take (octets_kept m.walked.frames) octets) law all_tools total
      ≡ record { frames = m.walked.frames; end = Ok tt; place = octets_kept m.walked.frames; bit = 0 }
  pub fits : length (samples_kept m.walked.frames) + m.filled ≡ total
  pub most : (c room : ℕ) → c ≤ length octets → (walk_all (take c octets) law all_tools room).end ≡ Ok tt
      → length (samples_kept (walk_all (take c octets) law all_tools room).frames) ≤ total → c ≤ octets_kept m.walked.frames
  pub same : (room : ℕ) → total ≤ room → StartsWith m.walked.frames (walk_all octets law all_tools room).frames

-- what the calls of a mending share
module _ {octets : List ℕ} {law total : ℕ} (may : Mendable octets law total) where
  begins : Walkable octets law all_tools
  begins = record { lawful = may.lawful; small = refl; short = may.short }

  abbrev w : Walked
  w = walk_up_to octets law total

  all-is : walk_all octets law all_tools total ≡ w
  all-is = walk-all octets law all_tools total begins

  fits : length (samples_kept w.frames) ≤ total
  fits = (walk-within (suc (length octets)) octets law all_tools 0 total (omega arith)).samples

  own : KeepsOwn octets law all_tools total w
  own = subst (λ (v : Walked). KeepsOwn octets law all_tools total v) all-is (kept-walks octets law all_tools total begins)

  -- any beginning that the walk accepts, by any room, and that does not pass the total is within what is kept
  most : (c room : ℕ) → c ≤ length octets → (walk_all (take c octets) law all_tools room).end ≡ Ok tt
      → length (samples_kept (walk_all (take c octets) law all_tools room).frames) ≤ total → c ≤ octets_kept w.frames
  most c room h e s =
      let p = take c octets in
      let q = drop c octets in
      let v = walk_all p law all_tools room in
      let l : length p ≡ c = length-take-le c octets h in
      let o = walk-all-of p law all_tools room (record { lawful = may.lawful; small = refl; short = omega (arith, may.short) }) in
      let behind = walk_from (suc (length octets)) octets law all_tools (length p) (total - length (samples_kept v.frames)) in
      let rest = walk-of (suc (length octets)) (p ++ q) law all_tools (length p) (total - length (samples_kept v.frames)) (omega (
        arith,
        ap length
            (take-append-drop c octets),
      )) in
      let all = joined q (walk-in-room total o e s) (omega arith) e rest in
      let same = walk-only (rw (take-append-drop c octets) at all) (suc (length octets)) (omega arith) in
      omega (
        arith,
        (clean o (omega arith) e).used,
        l,
        ap (λ (x : Walked). octets_kept x.frames) same,
        octets_kept-append
            v.frames behind.frames,
      )

  left-forty : filled_after w total % 40 ≡ 0
  left-forty =
      let t = eqb-true (total % 40) 0 (and_left (eqb (total % 40) 0) (leb total most_total) may.whole) in
      omega (arith, t, fits, forty (walk-of (suc (length octets)) octets law all_tools 0 total (omega arith)))

  -- what is kept and the filling, walked
  result-walks : length (mended octets law total).octets ≤ longest → (room : ℕ) → total ≤ room
      → HoldsTotal law total (mended octets law total) (walk_all (mended octets law total).octets law all_tools room)
  unfolding mended
  result-walks short room h =
      let k = octets_kept w.frames in
      let s = length (samples_kept w.frames) in
      let left = filled_after w total in
      let p = take k octets in
      let l : length p ≡ k = length-take-le k octets own.inside in
      let o = walk-all-of p law all_tools total
      (record { lawful = may.lawful; small = refl; short = omega (arith, own.inside, may.short) }) in
      let o' = walk-in-room room (rw own.walks at o) refl (omega (arith, fits)) in
      let f = filling-walks law left may.lawful left-forty p (room - s) (omega (arith, fits)) in
      let all = walk-all-only (record { lawful = may.lawful; small = refl; short = short })
      (joined (filling left) o' (omega arith) refl f.walks) in
      let samples = samples_kept-append w.frames f.frames ∙ ap (λ (x : List ℕ). samples_kept w.frames ++ x) f.samples in
      rw all (record {
        end = refl;
        place = refl;
        frames = more f.frames refl;
        samples = samples;
        total-is = ap length samples ∙ length-append (samples_kept w.frames) (replicate left (plus_zero (mask_of law)))
            ∙ omega (arith, fits, length-replicate left (plus_zero (mask_of law)));
      })

  all-kept : Kept octets law total (mended octets law total)
  unfolding mended
  all-kept =
      record {
        inside = own.inside;
        begins = refl;
        walks = own.walks;
        fits = omega (arith, fits);
        most = most;
        same = λ room h. more_room (walk-of (suc (length octets)) octets law all_tools 0 total (omega arith)) h
            (walk-all-of octets law all_tools room begins);
      }

module _ (octets : List ℕ) (law total room : ℕ) {m : Mended} (e : mend_of octets law total room ≡ mends m) where
  pub kept : Kept octets law total m
  kept = let d = made octets law total room e in rw d.is at (all-kept d.may)

  pub holds-total : (into : ℕ) → total ≤ into → HoldsTotal law total m (walk_all m.octets law all_tools into)
  holds-total into h =
      let d = made octets law total room e in
      subst (λ (x : Mended). HoldsTotal law total x (walk_all x.octets law all_tools into)) d.is
      (result-walks d.may (rw d.is d.short) into h)

-- how it stopped is how the walk with all tools and room for the total stops
pub why-walks : (octets : List ℕ) (law total : ℕ) {m : Mended} → why_of octets law total ≡ mends m
    → m.walked ≡ walk_all octets law all_tools total
unfolding mended
why-walks octets law total {m} e =
    let k = why-mends octets law total e in
    let same : mends (mended octets law total) ≡ mends m = sym (why-is octets law total k) ∙ e in
    let is : mended octets law total ≡ m = cc in
    let may : Mendable octets law total =
    record { lawful = k.0; short = leb-true (length octets) longest k.1.0; whole = k.1.1.0 } in
    ap (λ (x : Mended). x.walked) (sym is) ∙ sym (all-is may)

-- a walk that ends clean was allowed to begin
begun : (octets : List ℕ) (law room : ℕ) → (walk_all octets law all_tools room).end ≡ Ok tt → Walkable octets law all_tools
begun octets law room e = go (walk_begins octets law all_tools room) e
  where
    go : {w : Walked} → Begins octets law all_tools w → w.end ≡ Ok tt → Walkable octets law all_tools
    go (walkable t) e = t
    go (unlawful h d) e = let z : ◌≡◌ {A = ℕ} 0 1 = cc in absurd (omega arith)
    go (no-set h d) e = let z : ◌≡◌ {A = ℕ} 0 1 = cc in absurd (omega arith)
    go (too_long h d) e = let z : ◌≡◌ {A = ℕ} 0 1 = cc in absurd (omega arith)

-- a greeting that comes back unchanged: all of its frames kept, nothing filled
abbrev pub unchanged : List ℕ → Walked → Mended
unchanged octets w = record { walked = w; filled = 0; octets = octets }

nothing-filled : filling 0 ≡ []
unfolding fill_by
nothing-filled = refl

unchanged-is : (octets : List ℕ) (law total : ℕ) (v : Walked) → walk_up_to octets law total ≡ v → length octets ≤ octets_kept v.frames
    → length (samples_kept v.frames) ≡ total → mended octets law total ≡ unchanged octets v
unfolding mended
unchanged-is octets law total v e l s =
    let k = octets_kept v.frames in
    let z : filled_after v total ≡ 0 = omega (arith, s) in
    let o : take k octets ++ filling (filled_after v total) ≡ octets
    = ap (λ (n : ℕ). take k octets ++ filling n) z ∙ ap (λ (x : List ℕ). take k octets ++ x) nothing-filled ∙ append-nil
    (take k octets) ∙ take_all k octets l in
    ap (mended_by octets total) e ∙ (λ i. record { walked = v; filled = z i; octets = o i })

-- "An undamaged greeting of the right total comes back unchanged": one that a walk with any room accepts whole
pub undamaged : (octets : List ℕ) (law total into room : ℕ) → is_total total ≡ true → (walk_all octets law all_tools into).end ≡ Ok tt
    → length (samples_kept (walk_all octets law all_tools into).frames) ≡ total → length octets ≤ room
    → mend_of octets law total room ≡ mends (unchanged octets (walk_all octets law all_tools into))
undamaged octets law total into room t e s r =
    let v = walk_all octets law all_tools into in
    let may : Mendable octets law total =
    record { lawful = (begun octets law into e).lawful; short = (begun octets law into e).short; whole = t } in
    let o = walk-all-of octets law all_tools into (begun octets law into e) in
    let same : walk_up_to octets law total ≡ v = walk-only (walk-in-room total o e (omega (arith, s))) (suc (length octets)) (omega arith) in
    let c = clean o (omega arith) e in
    let is = unchanged-is octets law total v same (omega (arith, c.used)) s in
    let size : length (mended octets law total).octets ≡ length octets = ap (λ (x : Mended). length x.octets) is in
    mends-made octets law total room may (omega (arith, size, may.short)) (omega (arith, size, r)) ∙ ap mends is

-- "mending twice changes nothing more"
pub twice : (octets : List ℕ) (law total room again : ℕ) {m : Mended} → mend_of octets law total room ≡ mends m → length m.octets ≤ again
    → mend_of m.octets law total again ≡ mends (unchanged m.octets (walk_all m.octets law all_tools total))
twice octets law total room again {m} e r =
    let h = holds-total octets law total room e total (omega arith) in
    undamaged m.octets law total total again (made octets law total room e).may.whole h.end h.total-is r
