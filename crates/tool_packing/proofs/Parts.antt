-- A sound may be packed in parts: where a part's length is a multiple of the frame length, packing it and then the rest is packing the
-- whole (pack-parts); and so, page after page into a file, is what `pack_on` makes of the parts (carried_on).
use Prim.Native.Nat.{ℕ, ◌*◌, ◌-◌, ◌≤◌, min}
use native.Mathlib.Omega.{arith}
use mathlib.Core.Path.{◌≡◌, refl, sym, ap, ◌∙◌}
use mathlib.Core.List.{List, [], ◌∷◌, ◌++◌, append-nil}
use mathlib.Core.Bool.{Bool, true, false, cond}
use lib.ListN.{length, take, drop, length-append}
use lib.Seq.{drop-nil, take_at}
use lib.Dec.{ltb, leb}
use borrow.Author.Tests.{leb-true, leb-false}
use Rattle.rules.specs.declared.Refusal.{Refusal}
use Rattle.rules.specs.declared.Refusal.TheVariants.{Room}
use Rattle.rules.specs.Refusals.{Ending}
use Rattle.std.proofs.Common.{Ok, Err}
use Rattle.rules.specs.Tools.{is_law, is_writer_set, is_length}
use Rattle.rules.specs.Calls.{at_start}
use Rattle.rules.specs.Walk.{longest}
use Rattle.rules.proofs.Octets.{Below}
use Rattle.tool_packing.specs.declared.packing.PackAnswer.{PackAnswer}
use Rattle.tool_packing.specs.Cuts.{cuts, sound_in, last_end, end_of}
use Rattle.tool_packing.specs.Packing.{form_octets, stream_of, Packed, halted, before, put_all, pack_all, Packs, Pack, PackFile}
use Rattle.tool_packing.specs.Parts.{packed_on, room_on, PacksAfter, PackOn}
use Rattle.tool_packing.proofs.Lengths.{next-none}
use Rattle.tool_packing.proofs.Cuts.{cuts-none, cuts-parts, cuts-multiple}
use Rattle.tool_packing.proofs.Kept.{sound_in-append, stream_of-append, after}
use Rattle.tool_packing.proofs.Whole.{not_done, well-packed}
use Rattle.tool_packing.proofs.Enough.{stream-most, put-enough}
use Rattle.tool_packing.proofs.Ordered.{packs-as, the-frames}

-- frames put, and then others in the room that is left
put-parts : (law set room : ℕ) (x y : List (List ℕ)) (end : Ending) → (put_all law set room x (Ok tt)).end ≡ Ok tt
    → put_all law set room (x ++ y) end ≡ after x (put_all law set (room - length (stream_of law set x)) y end)
unfolding put_all stream_of
put-parts law set room [] y end e = let z : room - 0 ≡ room = omega arith in rw z refl
put-parts law set room (s ∷ x) y end e = go (length (form_octets law set s)) refl (ltb room (length (form_octets law set s)))
    (put-parts law set (room - length (form_octets law set s)) x y end) e
  where
    go : (u : ℕ) → length (form_octets law set s) ≡ u → (b : Bool) → ((put_all law set (room - u) x (Ok tt)).end ≡ Ok tt
        → put_all law set (room - u) (x ++ y) end ≡ after x (put_all law set (room - u - length (stream_of law set x)) y end))
        → (cond b (halted (Err Room)) (before s (put_all law set (room - u) x (Ok tt)))).end ≡ Ok tt
        → cond b (halted (Err Room)) (before s (put_all law set (room - u) (x ++ y) end))
        ≡ after (s ∷ x) (put_all law set (room - length (form_octets law set s ++ stream_of law set x)) y end)
    go u q true ih e = not_done Room e
    go u q false ih e =
        let left : room - u - length (stream_of law set x) ≡ room - length (form_octets law set s ++ stream_of law set x)
        = omega (arith, q, length-append (form_octets law set s) (stream_of law set x)) in
        ap (before s) (ih e) ∙ ap (λ (r : ℕ). after (s ∷ x) (put_all law set r y end)) left

-- where one of them does not fit, nothing after them matters
put-stays : (law set room : ℕ) (x y : List (List ℕ)) (end : Ending) → ((put_all law set room x (Ok tt)).end ≡ Ok tt → ⊥)
    → put_all law set room (x ++ y) end ≡ put_all law set room x (Ok tt)
unfolding put_all
put-stays law set room [] y end h = absurd (h refl)
put-stays law set room (s ∷ x) y end h = go (length (form_octets law set s)) (ltb room (length (form_octets law set s)))
    (put-stays law set (room - length (form_octets law set s)) x y end) h
  where
    go : (u : ℕ) (b : Bool)
        → (((put_all law set (room - u) x (Ok tt)).end ≡ Ok tt → ⊥) → put_all law set (room - u) (x ++ y) end ≡ put_all law set (room - u) x (Ok tt))
        → ((cond b (halted (Err Room)) (before s (put_all law set (room - u) x (Ok tt)))).end ≡ Ok tt → ⊥)
        → cond b (halted (Err Room)) (before s (put_all law set (room - u) (x ++ y) end))
        ≡ cond b (halted (Err Room)) (before s (put_all law set (room - u) x (Ok tt)))
    go u true ih h = refl
    go u false ih h = ap (before s) (ih h)

-- LAW, SET and a frame length that is none of the five do not look at the sound
module _ (x y : List ℕ) (law set n room : ℕ) where
  same-no-law : is_law law ≡ false → pack_all x law set n room ≡ pack_all y law set n room
  unfolding pack_all
  same-no-law l = rw l refl

  same-no-set : is_law law ≡ true → is_writer_set set ≡ false → pack_all x law set n room ≡ pack_all y law set n room
  unfolding pack_all
  same-no-set l o = rw (l, o) refl

  same-no-length : is_law law ≡ true → is_writer_set set ≡ true → is_length n ≡ false → pack_all x law set n room ≡ pack_all y law set n room
  unfolding pack_all
  same-no-length l o i = rw (l, o, i) refl

-- a page that holds whatever a part can need: as good as all that is left
page-enough : (b : List ℕ) (law set n page left : ℕ) → is_law law ≡ true → is_writer_set set ≡ true → is_length n ≡ true → Below 256 b
    → 41 * length b ≤ 40 * page → pack_all b law set n (min page left) ≡ pack_all b law set n left
page-enough b law set n page left l o i c h = go (leb page left) refl
  where
    most : 40 * length (stream_of law set (cuts n b)) ≤ 41 * length b
    most = stream-most law set n o c

    go : (t : Bool) → leb page left ≡ t → pack_all b law set n (min page left) ≡ pack_all b law set n left
    go true e =
        sym (the-frames b law set n (min page left) l o i)
        ∙ put-enough law set (min page left) left (cuts n b) (end_of n b) (omega (arith, most, h, leb-true page left e)) (omega arith)
        ∙ the-frames b law set n left l o i
    go false e = ap (pack_all b law set n) (omega (arith, leb-false page left e))

module _ (a b : List ℕ) (law set n k room : ℕ) (m : length a ≡ k * n) where
  end-multiple : is_length n ≡ true → end_of n a ≡ Ok tt
  unfolding end_of last_end
  end-multiple i = let z : length a - length (sound_in (cuts n a)) ≡ 0 = omega (arith, ap length (cuts-multiple n k a i m)) in rw z refl

  end-parts : is_length n ≡ true → end_of n (a ++ b) ≡ end_of n b
  unfolding end_of
  end-parts i =
      let c : sound_in (cuts n (a ++ b)) ≡ sound_in (cuts n a) ++ sound_in (cuts n b) = ap sound_in (cuts-parts n k a b i m)
      ∙ sound_in-append (cuts n a) (cuts n b) in
      ap last_end (omega (
        arith,
        ap length c,
        length-append (sound_in (cuts n a)) (sound_in (cuts n b)),
        ap length
            (cuts-multiple n k a i m),
        length-append a b,
      ))

  -- all tests passed, it is the putting of the parts' cuts
  whole_is : is_law law ≡ true → is_writer_set set ≡ true → is_length n ≡ true
      → pack_all (a ++ b) law set n room ≡ put_all law set room (cuts n a ++ cuts n b) (end_of n b)
  whole_is l o i =
      sym (the-frames (a ++ b) law set n room l o i)
      ∙ ap (λ (x : List (List ℕ)). put_all law set room x (end_of n (a ++ b))) (cuts-parts n k a b i m)
      ∙ ap (put_all law set room (cuts n a ++ cuts n b)) (end-parts i)

  first-is : is_law law ≡ true → is_writer_set set ≡ true → is_length n ≡ true
      → pack_all a law set n room ≡ put_all law set room (cuts n a) (Ok tt)
  first-is l o i = sym (the-frames a law set n room l o i) ∙ ap (put_all law set room (cuts n a)) (end-multiple i)

  -- a part that was packed well, and then the rest in the room that is left
  pub pack-parts : (pack_all a law set n room).end ≡ Ok tt → pack_all (a ++ b) law set n room
      ≡ after (pack_all a law set n room).frames (pack_all b law set n (room - length (stream_of law set (pack_all a law set n room).frames)))
  pack-parts e =
      let w = well-packed a law set n room e in
      let left = room - length (stream_of law set (cuts n a)) in
      rw w.frames
      (whole_is w.lawful w.odd w.allowed ∙ put-parts law set room (cuts n a) (cuts n b) (end_of n b)
      (ap (λ (p : Packed). p.end) (sym (first-is w.lawful w.odd w.allowed)) ∙ e)
      ∙ ap (after (cuts n a)) (the-frames b law set n left w.lawful w.odd w.allowed))

  -- a part that was refused: nothing after it matters
  pub pack-stays : ((pack_all a law set n room).end ≡ Ok tt → ⊥) → pack_all (a ++ b) law set n room ≡ pack_all a law set n room
  pack-stays h = go (is_law law) refl (is_writer_set set) refl (is_length n) refl
    where
      go : (x : Bool) → is_law law ≡ x → (y : Bool) → is_writer_set set ≡ y → (z : Bool) → is_length n ≡ z
          → pack_all (a ++ b) law set n room ≡ pack_all a law set n room
      go true l true o true i =
          whole_is l o i ∙ put-stays law set room (cuts n a) (cuts n b) (end_of n b)
          (λ e. h (ap (λ (p : Packed). p.end) (first-is l o i) ∙ e)) ∙ sym (first-is l o i)
      go true l true o false i = same-no-length (a ++ b) a law set n room l o i
      go true l false o z i = same-no-set (a ++ b) a law set n room l o
      go false l y o z i = same-no-law (a ++ b) a law set n room l

-- what a file has that had nothing: the stream
pub file-is : {law set : ℕ} {p : Packed} {r : PackAnswer} {file : List ℕ} → Packs law set p r [] file → file ≡ stream_of law set p.frames
file-is {law} {set} {p} f =
    let s = stream_of law set p.frames in
    f.lent ∙ ap (λ (x : List ℕ). s ++ x) (drop-nil (length s)) ∙ append-nil s

file-of : (stream file : List ℕ) → file ≡ stream → file ≡ at_start stream []
file-of stream file e = e ∙ sym (ap (λ (x : List ℕ). stream ++ x) (drop-nil (length stream)) ∙ append-nil stream)

-- packing no sound, where that is not refused, leaves a file with nothing in it
pub begun : (law set n : ℕ) (page page' : List ℕ) {r : PackAnswer} → Pack [] law set n page page' r → r.end ≡ Ok tt
    → PackFile [] law set n [] r
unfolding put_all stream_of
begun law set n page page' p e =
    let room = length page in
    let w = well-packed [] law set n room (sym p.end ∙ e) in
    let none : cuts n [] ≡ [] = cuts-none n [] (next-none n 0 (omega arith)) in
    let same : pack_all [] law set n room ≡ pack_all [] law set n longest
    = sym (the-frames [] law set n room w.lawful w.odd w.allowed) ∙ rw none refl
    ∙ the-frames [] law set n longest w.lawful w.odd w.allowed in
    let t = packs-as same p in
    let empty = ap (stream_of law set) (ap (λ (p : Packed). p.frames) (sym same) ∙ w.frames ∙ none) in
    record { end = t.end; frames = t.frames; samples = t.samples; octets = t.octets; lent = file-of _ [] (sym empty) }

-- the octets that the page adds
added : {law set : ℕ} {p : Packed} {done r : PackAnswer} {page page' : List ℕ} → PacksAfter done law set p page page' r
    → take (r.octets - done.octets) page' ≡ stream_of law set p.frames
added {law} {set} {p} {done} {r} {page} t =
    let s = stream_of law set p.frames in
    ap (take (r.octets - done.octets)) t.lent ∙ take_at s (drop (length s) page) (r.octets - done.octets) (omega (arith, t.octets))

-- an answer, and nothing after it
stayed : {law set : ℕ} {p : Packed} {why : Refusal} {done r : PackAnswer} {file page page' : List ℕ}
    → Packs law set p done [] file → done.end ≡ Err why → PacksAfter done law set (halted (Err why)) page page' r
    → Packs law set p r [] (file ++ take (r.octets - done.octets) page')
unfolding sound_in stream_of
stayed {file = file} f q t =
    record {
      end = t.end ∙ sym q ∙ f.end;
      frames = omega (arith, t.frames, f.frames);
      samples = omega (arith, t.samples, f.samples);
      octets = omega (arith, t.octets, f.octets);
      lent = ap (λ (x : List ℕ). file ++ x) (added t) ∙ append-nil file ∙ f.lent;
    }

-- an answer, and one after it
joined : {law set : ℕ} {p d : Packed} {done r : PackAnswer} {file page page' : List ℕ}
    → Packs law set p done [] file → PacksAfter done law set d page page' r
    → Packs law set (after p.frames d) r [] (file ++ take (r.octets - done.octets) page')
joined {law} {set} {p} {d} {file = file} f t =
    let s = stream_of law set p.frames in
    let more = stream_of law set d.frames in
    let whole = stream_of-append law set p.frames d.frames in
    record {
      end = t.end;
      frames = omega (arith, t.frames, f.frames, length-append p.frames d.frames);
      samples = omega (
        arith,
        t.samples,
        f.samples,
        ap length (sound_in-append p.frames d.frames) ∙ length-append (sound_in p.frames) (sound_in d.frames),
      );
      octets = omega (arith, t.octets, f.octets, ap length whole ∙ length-append s more);
      lent =
          file-of (stream_of law set (p.frames ++ d.frames)) _
          (ap (λ (x : List ℕ). file ++ x) (added t) ∙ ap (λ (x : List ℕ). x ++ more) (file-is f) ∙ sym whole);
    }

-- the same by the contracts: what `pack_on` makes of a part on a page that is large enough, put behind what was packed of a sound of whole
-- frames, is what packing both at once makes, and ROOM comes where the stream would be longer than the longest
pub carried_on : (a b : List ℕ) (law set n k : ℕ) (file page page' : List ℕ) {done r : PackAnswer} → length a ≡ k * n → Below 256 b
    → 41 * length b ≤ 40 * length page → PackFile a law set n file done → PackOn done b law set n page page' r
    → PackFile (a ++ b) law set n (file ++ take (r.octets - done.octets) page') r
carried_on a b law set n k file page page' {done} {r} m c h f g = go done.end refl g
  where
    go : (e : Ending) → done.end ≡ e → PacksAfter done law set (packed_on e b law set n (room_on done.octets (length page))) page page' r
        → PackFile (a ++ b) law set n (file ++ take (r.octets - done.octets) page') r
    go (Err why) q t =
        let h : (pack_all a law set n longest).end ≡ Err why = sym f.end ∙ q in
        packs-as (sym (pack-stays a b law set n k longest m (λ e. not_done why (sym h ∙ e)))) (stayed f q t)
    go (Ok tt) q t =
        let e : (pack_all a law set n longest).end ≡ (Ok _) = sym f.end ∙ q in
        let w = well-packed a law set n longest e in
        let left = longest - length (stream_of law set (pack_all a law set n longest).frames) in
        let same : pack_all b law set n (room_on done.octets (length page)) ≡ pack_all b law set n left
        = ap (λ (x : ℕ). pack_all b law set n (min (length page) (longest - x))) f.octets
        ∙ page-enough b law set n (length page) left w.lawful w.odd w.allowed c h in
        let t' = rw same at t in
        packs-as (sym (pack-parts a b law set n k longest m e)) (joined f t')
