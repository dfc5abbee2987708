-- Packing on its way: the frames packed, put before the packing of the rest, are the whole packing.
use Prim.Native.Nat.{ℕ, ◌+◌, ◌-◌, ◌≤◌, ◌<◌}
use mathlib.Core.Path.{◌≡◌, refl, sym, ap, subst, ◌∙◌}
use mathlib.Core.List.{List, [], ◌∷◌, ◌++◌, append_assoc, append-nil}
use mathlib.Core.Bool.{Bool, true, false, cond, ◌||◌}
use native.Mathlib.Omega.{arith}
use lib.ListN.{length, take, drop, length-append, length-drop}
use lib.Seq.{drop-drop, take_all, length-take-le}
use lib.Dec.{eqb, ltb}
use borrow.Author.Tests.{le-ltb, lt-ltb, ltb-true, ltb-false}
use Rattle.rules.specs.declared.Refusal.{Refusal}
use Rattle.rules.specs.declared.Refusal.TheVariants.{Room}
use Rattle.rules.specs.Refusals.{Ending}
use Rattle.std.proofs.Common.{Ok, Err}
use Rattle.rules.specs.declared.WriteAnswer.{WriteAnswer}
use Rattle.rules.specs.Tools.{is_law, is_writer_set, is_length}
use Rattle.rules.specs.Bits.{octets_for, octets_from, pack}
use Rattle.rules.specs.Samples.{mask_of}
use Rattle.rules.specs.Chooses.{wrote, declined, chosen, write_one}
use Rattle.rules.specs.Calls.{at_start, Writes}
use Rattle.rules.proofs.Octets.{length-pack}
use Rattle.rules.proofs.Lent.{Lent, lent-start, lent_length, lent-at-start, lent_same, lent-more}
use Rattle.tool_packing.specs.Cuts.{next_length, cuts, sound_in, last_end, end_of}
use Rattle.tool_packing.specs.Packing.{form_octets, stream_of, Packed, halted, before, put_all, Packs}
use Rattle.tool_packing.specs.Parts.{PutsFrame}
use Rattle.tool_packing.proofs.Lengths.{Fits, next_fits}
use Rattle.tool_packing.proofs.Cuts.{cuts-none, cuts-next}
use Rattle.tool_packing.proofs.Kept.{sound_in-more, stream_of-more, after, after-before}

-- what the writer says to a frame of a length, by a law and a writer's set: only ROOM is left to refuse
write-is : (law set l room : ℕ) (s : List ℕ) → is_law law ≡ true → is_writer_set set ≡ true → is_length l ≡ true → length s ≡ l
    → write_one l s law set room ≡ cond (ltb room (length (form_octets law set s))) (declined Room) (wrote (chosen (mask_of law) set s))
unfolding write_one form_octets
write-is law set l room s i o a e =
    let n : eqb l 0 || is_length l ≡ true = or-true (eqb l 0) (is_length l) a in
    rw (i, o, n, take_all l s (omega arith), length-pack (chosen (mask_of law) set s).bits) refl
  where
    or-true : (a b : Bool) → b ≡ true → a || b ≡ true
    or-true true b e = refl
    or-true false b e = e

form-length : (law set : ℕ) (s : List ℕ) → length (form_octets law set s) ≡ octets_for (length (chosen (mask_of law) set s).bits)
unfolding form_octets
form-length law set s = length-pack (chosen (mask_of law) set s).bits

form-lent : (law set : ℕ) (s out : List ℕ) → at_start (pack (chosen (mask_of law) set s).bits) out ≡ at_start (form_octets law set s) out
unfolding form_octets
form-lent law set s out = refl

nothing_lent : (out : List ℕ) → at_start (pack []) out ≡ out
unfolding pack octets_from
nothing_lent out = refl

put_on : (law set room left : ℕ) (s : List ℕ) (frames : List (List ℕ)) (end : Ending)
    → length (form_octets law set s) ≤ room → left ≡ room - length (form_octets law set s)
    → put_all law set room (s ∷ frames) end ≡ before s (put_all law set left frames end)
unfolding put_all
put_on law set room left s frames end h e = rw (le-ltb room (length (form_octets law set s)) h, e)

put-no-room : (law set room : ℕ) (s : List ℕ) (frames : List (List ℕ)) (end : Ending)
    → room < length (form_octets law set s) → put_all law set room (s ∷ frames) end ≡ halted (Err Room)
unfolding put_all
put-no-room law set room s frames end h = rw (lt-ltb room (length (form_octets law set s)) h)

module _ (sound : List ℕ) (law set n : ℕ) (out₀ : List ℕ) where
  abbrev pub packed : Packed
  packed = put_all law set (length out₀) (cuts n sound) (end_of n sound)

  pub record Packing (out : List ℕ) (from at count : ℕ) : Type 0 where
    pub done : List (List ℕ)
    pub is_whole : packed ≡ after done (put_all law set (length out₀ - at) (cuts n (drop from sound)) (end_of n sound))
    pub all-cuts : cuts n sound ≡ done ++ cuts n (drop from sound)
    pub frames : count ≡ length done
    pub samples : from ≡ length (sound_in done)
    pub kept : Lent out₀ (stream_of law set done) out at
    pub inside : from ≤ length sound
    pub few : count ≤ from

  pub pack-start : Packing out₀ 0 0 0
  unfolding sound_in stream_of
  pack-start =
      record {
        done = [];
        is_whole = let e : length out₀ - 0 ≡ length out₀ = omega arith in rw e;
        all-cuts = refl;
        frames = refl;
        samples = refl;
        kept = lent-start out₀;
        inside = omega arith;
        few = omega arith;
      }

  -- where it stops, with no frame more
  pub pack-stop : {out : List ℕ} {from at count : ℕ} (w : Packing out from at count) (e : Ending)
      → put_all law set (length out₀ - at) (cuts n (drop from sound)) (end_of n sound) ≡ halted e
      → Packs law set packed (record { end = e; frames = count; samples = from; octets = at }) out₀ out
  pack-stop {out} {from} {at} {count} w e q =
      subst (λ (x : Packed). Packs law set x (record { end = e; frames = count; samples = from; octets = at }) out₀ out)
      (sym (w.is_whole ∙ ap (after w.done) q)) (record {
        end = refl;
        frames = rw append-nil w.frames;
        samples = rw append-nil w.samples;
        octets = rw append-nil w.kept.size;
        lent = rw append-nil (lent-at-start w.kept);
      })

  module _ {out : List ℕ} {from at count : ℕ} (w : Packing out from at count) where
    -- the end of the sound, or octets that no length fits
    pub pack-done : next_length n (length sound - from) ≡ 0 → {e : Ending} → e ≡ last_end (length sound - from)
        → Packs law set packed (record { end = e; frames = count; samples = from; octets = at }) out₀ out
    unfolding put_all end_of
    pack-done h {e} l =
        let left : length (drop from sound) ≡ length sound - from = length-drop from sound in
        let none : cuts n (drop from sound) ≡ [] = cuts-none n (drop from sound) (rw left h) in
        let all : sound_in (cuts n sound) ≡ sound_in w.done =
        ap sound_in (w.all-cuts ∙ ap (λ (x : List (List ℕ)). w.done ++ x) none ∙ append-nil w.done) in
        let size : length (sound_in (cuts n sound)) ≡ from = ap length all ∙ sym w.samples in
        pack-stop w e (rw none (rw (size, l) refl))

    module _ (i : is_law law ≡ true) (o : is_writer_set set ≡ true) {l to : ℕ} (h : l ≡ next_length n (length sound - from))
        (some : 1 ≤ l) (e : to ≡ from + l) where
      fits : Fits (length sound - from) l
      fits = next_fits n (length sound - from) l h some

      abbrev s : List ℕ
      s = take l (drop from sound)

      s-length : length s ≡ l
      s-length = length-take-le l (drop from sound) (omega (arith, length-drop from sound, fits.within))

      next-cut : cuts n (drop from sound) ≡ s ∷ cuts n (drop to sound)
      next-cut =
          cuts-next n l (drop from sound) (ap (next_length n) (length-drop from sound) ∙ sym h) some
          ∙ ap (λ (x : List ℕ). s ∷ cuts n x) (drop-drop l from sound ∙ ap (λ (k : ℕ). drop k sound) (sym e))

      -- a frame that does not fit
      no_room : {out' rest : List ℕ} → length out₀ - at < length (form_octets law set s)
          → rest ≡ drop at out → out' ≡ take at out ++ rest
          → Packs law set packed (record { end = Err Room; frames = count; samples = from; octets = at }) out₀ out'
      no_room {out'} {rest} k f g =
          subst (λ (x : List ℕ). Packs law set packed (record { end = Err Room; frames = count; samples = from; octets = at }) out₀ x)
          (sym (lent_same w.kept g f))
          (pack-stop w (Err Room)
          (ap (λ (x : List (List ℕ)). put_all law set (length out₀ - at) x (end_of n sound)) next-cut
          ∙ put-no-room law set (length out₀ - at) s (cuts n (drop to sound)) (end_of n sound) k))

      -- a frame that is put
      put : {out' rest : List ℕ} (used : ℕ) → length (form_octets law set s) ≤ length out₀ - at → used ≡ length (form_octets law set s)
          → rest ≡ at_start (form_octets law set s) (drop at out) → out' ≡ take at out ++ rest → Packing out' to (at + used) (count + 1)
      put {out'} {rest} used k u er g =
          let on = put_on law set (length out₀ - at) (length out₀ - (at + used)) s (cuts n (drop to sound)) (end_of n sound)
          k (omega arith) in
          record {
            done = w.done ++ (s ∷ []);
            is_whole =
                w.is_whole
                ∙ ap (λ (x : List (List ℕ)). after w.done (put_all law set (length out₀ - at) x (end_of n sound))) next-cut
                ∙ ap (after w.done) on ∙ after-before w.done s _;
            all-cuts = w.all-cuts ∙ ap (λ (x : List (List ℕ)). w.done ++ x) next-cut
                ∙ sym (append_assoc w.done (s ∷ []) (cuts n (drop to sound)));
            frames = omega (arith, w.frames, length-append w.done (s ∷ []));
            samples = omega (arith, e, w.samples, s-length, ap length (sound_in-more w.done s) ∙ length-append (sound_in w.done) s);
            kept = rw stream_of-more (lent-more w.kept g (form_octets law set s) u (omega (arith, k, u)) er);
            inside = omega (arith, e, fits.within, w.inside);
            few = omega (arith, e, w.few, some);
          }

      -- as the written frame's answer says
      module _ {out' : List ℕ} {r : WriteAnswer} (p : PutsFrame sound from (to - from) law set at out out' r) where
        written-here : Writes
            (cond (ltb (length out₀ - at) (length (form_octets law set s))) (declined Room) (wrote (chosen (mask_of law) set s)))
            r (drop at out) p.rest
        written-here =
            let d : to - from ≡ l = omega (arith, e) in
            rw (d, lent_length w.kept, write-is law set l (length out₀ - at) s i o fits.allowed s-length) at p.writes

        pub pack-turn : r.end ≡ Ok tt → Packing out' to (at + r.octets) (count + 1)
        pack-turn q = go (ltb (length out₀ - at) (length (form_octets law set s))) refl written-here
          where
            go : (b : Bool) → ltb (length out₀ - at) (length (form_octets law set s)) ≡ b
                → Writes (cond b (declined Room) (wrote (chosen (mask_of law) set s))) r (drop at out) p.rest
                → Packing out' to (at + r.octets) (count + 1)
            go true f t = let d = t.end in let z : ◌≡◌ {A = ℕ} 0 1 = cc in absurd (omega arith)
            go false f t = put r.octets (ltb-false (length out₀ - at) (length (form_octets law set s)) f)
                (t.octets ∙ sym (form-length law set s)) (t.lent ∙ form-lent law set s (drop at out)) p.lent

        pub pack-refused : (why : Refusal) → r.end ≡ Err why
            → Packs law set packed (record { end = Err why; frames = count; samples = from; octets = at }) out₀ out'
        pack-refused why q = go (ltb (length out₀ - at) (length (form_octets law set s))) refl written-here
          where
            go : (b : Bool) → ltb (length out₀ - at) (length (form_octets law set s)) ≡ b
                → Writes (cond b (declined Room) (wrote (chosen (mask_of law) set s))) r (drop at out) p.rest
                → Packs law set packed (record { end = Err why; frames = count; samples = from; octets = at }) out₀ out'
            go true f t =
                let d = t.end in
                let same : Room ≡ why = cc in
                rw (← same) (no_room (ltb-true (length out₀ - at) (length (form_octets law set s)) f)
                (t.lent ∙ nothing_lent (drop at out)) p.lent)
            go false f t = let d = t.end in let z : ◌≡◌ {A = ℕ} 0 1 = cc in absurd (omega arith)
