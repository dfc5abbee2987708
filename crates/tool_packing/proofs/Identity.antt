-- Packed and then walked, a sound is the same sound: by the same law, with any set that holds the writer's, given room.
use Prim.Native.Nat.{ℕ, zero, suc, ◌+◌, ◌≤◌}
use native.Mathlib.Omega.{arith}
use mathlib.Core.Path.{◌≡◌, refl, sym, ap, ◌∙◌}
use mathlib.Core.List.{List, [], ◌∷◌, ◌++◌}
use mathlib.Core.Bool.{Bool, true, false, cond}
use lib.ListN.{length, take, drop}
use lib.Seq.{take_at, length-take-le}
use lib.Dec.{eqb}
use borrow.Author.Tests.{eqb-false}
use Rattle.std.proofs.Common.{Ok}
use Rattle.rules.specs.declared.WalkAnswer.{WalkAnswer}
use Rattle.rules.specs.Tools.{Within, is_set, is_writer_set}
use Rattle.rules.specs.Samples.{mask_of}
use Rattle.rules.specs.Walk.{Walked, longest, walk_all, octets_kept, samples_kept}
use Rattle.rules.specs.Calls.{at_start, Walks, Walk}
use Rattle.rules.proofs.Octets.{Below, below-take, below-drop}
use Rattle.promises.proofs.Written.{full}
use Rattle.promises.proofs.Lists.{Part, frame_of, frames, All, last, then}
use Rattle.promises.proofs.Lists.{octets_of, stream, samples_all, deliveries, lists-walked, deliveries-samples, deliveries-octets}
use Rattle.tool_packing.specs.declared.packing.PackAnswer.{PackAnswer}
use Rattle.tool_packing.specs.Cuts.{next_length, cuts_from, cuts, sound_in}
use Rattle.tool_packing.specs.Packing.{form_octets, stream_of, pack_all, Pack}
use Rattle.tool_packing.proofs.Lengths.{next_fits}
use Rattle.tool_packing.proofs.Whole.{well-packed, pack-bounds}

-- frames as parts of a stream, each written with the same set
unfoldable parts_of : ℕ → List (List ℕ) → List Part
parts_of set [] = []
parts_of set (s ∷ fs) = frame_of set s ∷ parts_of set fs

parts-stream : (law set : ℕ) (fs : List (List ℕ)) → stream (mask_of law) (parts_of set fs) ≡ stream_of law set fs
unfolding parts_of stream stream_of form_octets
parts-stream law set [] = refl
parts-stream law set (s ∷ fs) = rw (parts-stream law set fs) refl

parts-sound : (set : ℕ) (fs : List (List ℕ)) → samples_all (parts_of set fs) ≡ sound_in fs
unfolding parts_of samples_all sound_in
parts-sound set [] = refl
parts-sound set (s ∷ fs) = ap (λ (x : List ℕ). s ++ x) (parts-sound set fs)

delivered : (mask at set : ℕ) (fs : List (List ℕ)) → length (deliveries mask at (parts_of set fs)) ≡ length fs
unfolding parts_of deliveries
delivered mask at set [] = refl
delivered mask at set (s ∷ fs) = ap suc (delivered mask (at + length (octets_of mask (frame_of set s))) set fs)

-- every cut is a frame that a writer takes
cuts-may : (a n set reader : ℕ) {s : List ℕ} → is_writer_set set ≡ true → Within set reader → Below 256 s
    → All reader (parts_of set (cuts_from a n s))
unfolding cuts_from parts_of
cuts-may zero n set reader o w b = last
cuts-may (suc a) n set reader {s} o w b =
    let l = next_length n (length s) in
    go l refl (eqb l 0) refl (cuts-may a n set reader o w (below-drop l b))
  where
    go : (l : ℕ) → l ≡ next_length n (length s) → (t : Bool) → eqb l 0 ≡ t → All reader (parts_of set (cuts_from a n (drop l s)))
        → All reader (parts_of set (cond t [] (take l s ∷ cuts_from a n (drop l s))))
    go l q true e ih = last
    go l q false e ih =
        let z = eqb-false l 0 e in
        let f = next_fits n (length s) l q (omega (arith, z)) in
        then (frames o w (full {s = take l s} (rw (length-take-le l s f.within) f.allowed) (below-take l b))) ih

-- what a walk over a stream gives back: all of the sound, frame for frame, with all octets used
pub record GivesBack (sound : List ℕ) (count : ℕ) (stream : List ℕ) (w : Walked) : Type 0 where
  pub end : w.end ≡ Ok tt
  pub sound_back : samples_kept w.frames ≡ sound
  pub frames : length w.frames ≡ count
  pub octets : octets_kept w.frames ≡ length stream
  pub place : w.place ≡ length stream

-- the identity: what packing made of a sound, walked, is the sound
pub pack-walk : (sound : List ℕ) (law set n room : ℕ) → Below 256 sound → (pack_all sound law set n room).end ≡ Ok tt
    → (reader into : ℕ) → is_set reader ≡ true → Within set reader
    → length (stream_of law set (pack_all sound law set n room).frames) ≤ longest → length sound ≤ into
    → GivesBack sound (length (pack_all sound law set n room).frames) (stream_of law set (pack_all sound law set n room).frames)
    (walk_all (stream_of law set (pack_all sound law set n room).frames) law reader into)
unfolding cuts
pack-walk sound law set n room b e reader into i w h r =
    let p = pack_all sound law set n room in
    let k = well-packed sound law set n room e in
    let ps = parts_of set p.frames in
    let str : stream (mask_of law) ps ≡ stream_of law set p.frames = parts-stream law set p.frames in
    let all : All reader ps = rw k.frames (cuts-may (length sound) n set reader k.odd w b) in
    let whole : samples_all ps ≡ sound = parts-sound set p.frames ∙ k.sound-whole in
    let walked = rw str at (lists-walked law reader into ps k.lawful i all (rw str h) (rw whole r)) in
    rw walked (record {
      end = refl;
      sound_back = deliveries-samples (mask_of law) 0 ps ∙ whole;
      frames = delivered (mask_of law) 0 set p.frames;
      octets = deliveries-octets (mask_of law) 0 ps ∙ ap length str;
      place = refl;
    })

-- the same by the contracts of the two calls: what `pack` left in a lent output of at most 1,048,576 octets, `walk` puts out as the sound
pub record Returned (sound : List ℕ) (r : PackAnswer) (into into' : List ℕ) (w : WalkAnswer) : Type 0 where
  pub end : w.end ≡ Ok tt
  pub frames : w.frames ≡ r.frames
  pub octets : w.octets ≡ r.octets
  pub samples : w.samples ≡ length sound
  pub lent : into' ≡ at_start sound into

pub packed-walked : (sound : List ℕ) (law set n : ℕ) (out out' : List ℕ) (r : PackAnswer) → Below 256 sound → length out ≤ longest
    → Pack sound law set n out out' r → r.end ≡ Ok tt
    → (reader : ℕ) (into into' : List ℕ) (w : WalkAnswer) → is_set reader ≡ true → Within set reader → length sound ≤ length into
    → Walk (take r.octets out') law reader into into' w → Returned sound r into into' w
packed-walked sound law set n out out' r b m c e reader into into' w i h s d =
    let p = pack_all sound law set n (length out) in
    let str = stream_of law set p.frames in
    let o : take r.octets out' ≡ str = ap (take r.octets) c.lent
    ∙ take_at str (drop (length str) out) r.octets (sym c.octets) in
    let g = pack-walk sound law set n (length out) b (sym c.end ∙ e) reader (length into) i h
    (omega (arith, (pack-bounds sound law set n (length out)).octets-most)) s in
    let d' : Walks (walk_all str law reader (length into)) w into into' = rw o at d in
    record {
      end = d'.end ∙ g.end;
      frames = d'.frames ∙ g.frames ∙ sym c.frames;
      octets = d'.octets ∙ g.octets ∙ sym c.octets;
      samples = d'.samples ∙ ap length g.sound_back;
      lent = d'.lent ∙ ap (λ (x : List ℕ). at_start x into) g.sound_back;
    }
