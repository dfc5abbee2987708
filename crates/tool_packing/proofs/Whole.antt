-- A packing keeps within the sound and the room; one that ended well has every cut, and the cuts are the sound.
use Prim.Native.Nat.{ℕ, suc, ◌-◌, ◌≤◌}
use native.Mathlib.Omega.{arith}
use mathlib.Core.Path.{◌≡◌, refl, ap, ◌∙◌}
use mathlib.Core.List.{List, [], ◌∷◌, ◌++◌}
use mathlib.Core.Bool.{Bool, true, false, cond, not}
use lib.ListN.{length, length-append}
use lib.Dec.{eqb, ltb}
use borrow.Author.Tests.{ltb-false, eqb-true, not-false}
use Rattle.rules.specs.declared.Refusal.{Refusal}
use Rattle.rules.specs.declared.Refusal.TheVariants.{Room, Length, Set, Law}
use Rattle.rules.specs.Refusals.{Ending}
use Rattle.std.proofs.Common.{Ok, Err}
use Rattle.rules.specs.Tools.{is_law, is_writer_set, is_length}
use Rattle.tool_packing.specs.declared.packing.PackAnswer.{PackAnswer}
use Rattle.tool_packing.specs.Cuts.{cuts, sound_in, last_end, end_of}
use Rattle.tool_packing.specs.Packing.{form_octets, stream_of, Packed, halted, before, put_all, pack_all, Packs}
use Rattle.tool_packing.proofs.Cuts.{cuts-whole, cuts-few, cuts-inside}

-- so many frames, so much sound and so many octets at most
pub record Bounds (frames samples octets : ℕ) (p : Packed) (law set : ℕ) : Type 0 where
  pub frames-most : length p.frames ≤ frames
  pub samples-most : length (sound_in p.frames) ≤ samples
  pub octets-most : length (stream_of law set p.frames) ≤ octets

pub none_kept : (law set room frames samples : ℕ) (end : Ending) → Bounds frames samples room (halted end) law set
unfolding sound_in stream_of
none_kept law set room frames samples end = record { frames-most = omega arith; samples-most = omega arith; octets-most = omega arith }

put-bounds : (law set room : ℕ) (frames : List (List ℕ)) (end : Ending)
    → Bounds (length frames) (length (sound_in frames)) room (put_all law set room frames end) law set
unfolding put_all sound_in stream_of
put-bounds law set room [] end = none_kept law set room 0 0 end
put-bounds law set room (s ∷ frames) end =
    go (ltb room (length (form_octets law set s))) refl (put-bounds law set (room - length (form_octets law set s)) frames end)
  where
    go : (b : Bool) → ltb room (length (form_octets law set s)) ≡ b
        → Bounds (length frames) (length (sound_in frames)) (room - length (form_octets law set s))
        (put_all law set (room - length (form_octets law set s)) frames end) law set
        → Bounds (suc (length frames)) (length (s ++ sound_in frames)) room
        (cond b (halted (Err Room)) (before s (put_all law set (room - length (form_octets law set s)) frames end))) law set
    go true e h = none_kept law set room (suc (length frames)) (length (s ++ sound_in frames)) (Err Room)
    go false e h =
        let rest = (put_all law set (room - length (form_octets law set s)) frames end).frames in
        record {
          frames-most = omega (arith, h.frames-most);
          samples-most = omega (arith, h.samples-most, length-append s (sound_in rest), length-append s (sound_in frames));
          octets-most = omega (
            arith,
            h.octets-most,
            ltb-false room (length (form_octets law set s)) e,
            length-append
                (form_octets law set s) (stream_of law set rest),
          );
        }

guarded : (P : Packed → Type 0) (b : Bool) {x y : Packed} → P x → P y → P (cond b x y)
guarded P true h k = h
guarded P false h k = k

pub pack-bounds : (sound : List ℕ) (law set n room : ℕ) → Bounds (length sound) (length sound) room (pack_all sound law set n room) law set
unfolding pack_all
pack-bounds sound law set n room =
    let P : Packed → Type 0 = λ p. Bounds (length sound) (length sound) room p law set in
    let none : (e : Ending) → P (halted e) = λ e. none_kept law set room (length sound) (length sound) e in
    let b = put-bounds law set room (cuts n sound) (end_of n sound) in
    guarded P (not (is_law law)) (none (Err Law))
    (guarded P (not (is_writer_set set)) (none (Err Set))
    (guarded P (not (is_length n)) (none (Err Length))
    (record {
      frames-most = omega (arith, b.frames-most, cuts-few n sound);
      samples-most = omega (arith, b.samples-most, cuts-inside n sound);
      octets-most = b.octets-most;
    })))

-- A packing that ended well
pub not_done : {A : Type 0} (why : Refusal) → ◌≡◌ {A = Ending} (Err why) (Ok tt) → A
not_done why e = let z : ◌≡◌ {A = ℕ} 0 1 = cc in absurd (omega arith)

put-done : (law set room : ℕ) (frames : List (List ℕ)) (end : Ending) → (put_all law set room frames end).end ≡ Ok tt
    → ((put_all law set room frames end).frames ≡ frames) × (end ≡ Ok tt)
unfolding put_all
put-done law set room [] end e = (refl, e)
put-done law set room (s ∷ frames) end e = go (ltb room (length (form_octets law set s)))
    (put-done law set (room - length (form_octets law set s)) frames end) e
  where
    go : (b : Bool) → ((put_all law set (room - length (form_octets law set s)) frames end).end ≡ Ok tt
        → ((put_all law set (room - length (form_octets law set s)) frames end).frames ≡ frames) × (end ≡ Ok tt))
        → (cond b (halted (Err Room)) (before s (put_all law set (room - length (form_octets law set s)) frames end))).end ≡ Ok tt
        → ((cond b (halted (Err Room)) (before s (put_all law set (room - length (form_octets law set s)) frames end))
        ).frames ≡ s ∷ frames) × (end ≡ Ok tt)
    go true ih e = not_done Room e
    go false ih e = let h = ih e in (ap (λ (x : List (List ℕ)). s ∷ x) h.0, h.1)

-- the tests that it has passed; its frames are all the cuts, and they are the sound
pub record WellPacked (sound : List ℕ) (law set n : ℕ) (p : Packed) : Type 0 where
  pub lawful : is_law law ≡ true
  pub odd : is_writer_set set ≡ true
  pub allowed : is_length n ≡ true
  pub frames : p.frames ≡ cuts n sound
  pub sound-whole : sound_in p.frames ≡ sound

guard : (b : Bool) (why : Refusal) (y : Packed) → (cond b (halted (Err why)) y).end ≡ Ok tt
    → (b ≡ false) × (y.end ≡ Ok tt) × (cond b (halted (Err why)) y ≡ y)
guard true why y e = not_done why e
guard false why y e = (refl, e, refl)

last_done : (left : ℕ) → last_end left ≡ Ok tt → left ≡ 0
unfolding last_end
last_done left e = go (eqb left 0) refl e
  where
    go : (b : Bool) → eqb left 0 ≡ b → ◌≡◌ {A = Ending} (cond b (Ok tt) (Err Length)) (Ok tt) → left ≡ 0
    go true q e = eqb-true left 0 q
    go false q e = not_done Length e

pub well-packed : (sound : List ℕ) (law set n room : ℕ) → (pack_all sound law set n room).end ≡ Ok tt
    → WellPacked sound law set n (pack_all sound law set n room)
unfolding pack_all end_of
well-packed sound law set n room e =
    let put = put_all law set room (cuts n sound) (end_of n sound) in
    let timed = cond (not (is_length n)) (halted (Err Length)) put in
    let toolled = cond (not (is_writer_set set)) (halted (Err Set)) timed in
    let a = guard (not (is_law law)) Law toolled e in
    let b = guard (not (is_writer_set set)) Set timed a.1 in
    let c = guard (not (is_length n)) Length put b.1 in
    let d = put-done law set room (cuts n sound) (end_of n sound) c.1 in
    let same : pack_all sound law set n room ≡ put = a.2 ∙ b.2 ∙ c.2 in
    let f : (pack_all sound law set n room).frames ≡ cuts n sound = ap (λ (p : Packed). p.frames) same ∙ d.0 in
    record {
      lawful = not-false (is_law law) a.0;
      odd = not-false (is_writer_set set) b.0;
      allowed = not-false (is_length n) c.0;
      frames = f;
      sound-whole = ap sound_in f ∙ cuts-whole n sound (last_done (length sound - length (sound_in (cuts n sound))) d.1);
    }

-- so an answer keeps within the sound and the room
pub record Inside (sound room : ℕ) (r : PackAnswer) : Type 0 where
  pub frames : r.frames ≤ sound
  pub samples : r.samples ≤ sound
  pub octets : r.octets ≤ room

pub pack-inside : (sound : List ℕ) (law set n room : ℕ) (out out' : List ℕ) {r : PackAnswer}
    → Packs law set (pack_all sound law set n room) r out out' → Inside (length sound) room r
pack-inside sound law set n room out out' p =
    let b = pack-bounds sound law set n room in
    record {
      frames = omega (arith, p.frames, b.frames-most);
      samples = omega (arith, p.samples, b.samples-most);
      octets = omega (arith, p.octets, b.octets-most);
    }
