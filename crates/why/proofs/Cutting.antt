-- The frames that the tool goes through are those that `pack` cuts, of the definitions, in the code's steps: `cut-start`, `cut-next` and
-- `cut-end` of a part, `next-frame` of the whole sound, part after part by `parts-start` and `parts_next`; in the code's own expressions
-- `frame-in`, `cut_on`, `begun` and `parts-on`.
use Prim.Native.Nat.{ℕ, ◌+◌, ◌*◌, ◌-◌, ◌/◌, ◌≤◌}
use native.Mathlib.Omega.{arith}
use native.Mathlib.Nat.{mul_assoc}
use mathlib.Core.Path.{◌≡◌, refl, sym, ap, subst, ◌∙◌}
use mathlib.Core.List.{List, [], ◌∷◌, ◌++◌, append_assoc, append-nil}
use mathlib.Core.Bool.{true}
use lib.ListN.{length, take, drop, length-append, length-drop}
use lib.Seq.{drop-drop, length-take-le}
use borrow.Author.Tests.{eqb-true}
use Rattle.rules.specs.Refusals.{Ending}
use Rattle.std.proofs.Common.{Ok, Err}
use Rattle.rules.specs.Tools.{is_length}
use Rattle.rules.proofs.Tests.{by_length}
use Rattle.tool_packing.specs.Cuts.{next_length, cuts, sound_in}
use Rattle.tool_packing.specs.SoundParts.{part_size, goes_on}
use Rattle.tool_packing.proofs.Lengths.{next-none, next_fits}
use Rattle.tool_packing.proofs.Cuts.{cuts-none, cuts-next, cuts-parts}
use Rattle.tool_packing.proofs.Kept.{sound_in-append}
use Rattle.why.specs.Cut.{FrameOf, PartsCut, CutTo, FrameIn, PartsIn, Further}
use Rattle.std.specs.Prelude.{Result, IfOk}
use Rattle.why.specs.declared.Run.{Run}
use Rattle.why.specs.declared.Amiss.{Amiss}

-- one frame by itself
sound-one : (s : List ℕ) → sound_in (s ∷ []) ≡ s
unfolding sound_in
sound-one s = append-nil s

no-sound : sound_in [] ≡ []
unfolding sound_in
no-sound = refl

-- A part, from its start, frame by frame, until no length fits
pub cut-start : (n : ℕ) (part : List ℕ) → CutTo n part 0 0
cut-start n part = record { done = []; cut = refl; count = refl; stands = ap length no-sound }

module _ (n : ℕ) (part : List ℕ) (from k : ℕ) (c : CutTo n part from k) where
  rest-length : length (drop from part) ≡ length part - from
  rest-length = length-drop from part

  pub cut-end : next_length n (length part - from) ≡ 0 → (length (cuts n part) ≡ k) × (length (sound_in (cuts n part)) ≡ from)
  cut-end e =
      let none : cuts n (drop from part) ≡ [] = cuts-none n (drop from part) (ap (next_length n) rest-length ∙ e) in
      let all : cuts n part ≡ c.done = c.cut ∙ ap (λ x. c.done ++ x) none ∙ append-nil c.done in
      (ap length all ∙ c.count, ap (λ x. length (sound_in x)) all ∙ c.stands)

  module _ (len : ℕ) (e : next_length n (length part - from) ≡ len) (some : 1 ≤ len) where
    abbrev frame : List ℕ
    frame = take len (drop from part)

    cut-here : cuts n part ≡ c.done ++ (frame ∷ cuts n (drop (from + len) part))
    cut-here =
        c.cut ∙ ap (λ x. c.done ++ x) (cuts-next n len (drop from part) (ap (next_length n) rest-length ∙ e) some)
        ∙ ap (λ x. c.done ++ (take len (drop from part) ∷ cuts n x)) (drop-drop len from part)

    frame-long : length frame ≡ len
    frame-long =
        length-take-le len (drop from part)
        (omega (arith, rest-length, (next_fits n (length (drop from part)) len (sym (ap (next_length n) rest-length ∙ e)) some).within))

    pub cut-next : CutTo n part (from + len) (k + 1)
    cut-next = record {
      done = c.done ++ (frame ∷ []);
      cut = cut-here ∙ sym (append_assoc c.done (frame ∷ []) (cuts n (drop (from + len) part)));
      count = length-append c.done (frame ∷ []) ∙ omega (arith, c.count);
      stands = ap length (sound_in-append c.done (frame ∷ []))
          ∙ length-append (sound_in c.done) (sound_in (frame ∷ []))
          ∙ omega (arith, c.stands, ap length (sound-one frame), frame-long);
    }

-- Part after part: a part that is whole is a multiple of every frame length
part-multiple : (n : ℕ) → is_length n ≡ true → part_size ≡ part_size / n * n
part-multiple n i = by_length (λ n. part_size ≡ part_size / n * n) refl refl refl refl refl n i

pub parts-start : (n : ℕ) → PartsCut n 0 0 []
parts-start n =
    let none : cuts n [] ≡ [] = cuts-none n [] (next-none n 0 (omega arith)) in
    record { parts = 0; whole = refl; count = ap length none; stands = ap (λ x. length (sound_in x)) none ∙ ap length no-sound }

module _ (n frames samples : ℕ) (sound : List ℕ) (i : is_length n ≡ true) (p : PartsCut n frames samples sound) where
  many : length sound ≡ p.parts * (part_size / n) * n
  many = p.whole ∙ ap (λ x. p.parts * x) (part-multiple n i) ∙ sym (mul_assoc p.parts (part_size / n) n)

  behind : (part : List ℕ) → cuts n (sound ++ part) ≡ cuts n sound ++ cuts n part
  behind part = cuts-parts n (p.parts * (part_size / n)) sound part i many

  -- the next frame of a part is the next one that `pack` cuts of the whole sound
  pub next-frame : (part : List ℕ) (from k len : ℕ) → CutTo n part from k → next_length n (length part - from) ≡ len → 1 ≤ len
      → FrameOf n (sound ++ part) (frames + k) (samples + from) (take len (drop from part))
  next-frame part from k len c e some = record {
    before = cuts n sound ++ c.done;
    after = cuts n (drop (from + len) part);
    cut = behind part ∙ ap (λ x. cuts n sound ++ x) (cut-here n part from k c len e some)
        ∙ sym (append_assoc (cuts n sound) c.done (take len (drop from part) ∷ cuts n (drop (from + len) part)));
    number = length-append (cuts n sound) c.done ∙ omega (arith, p.count, c.count);
    stands = ap length (sound_in-append (cuts n sound) c.done) ∙ length-append (sound_in (cuts n sound)) (sound_in c.done)
        ∙ omega (arith, p.stands, c.stands);
  }

  -- and after a whole part, cut to its end, it goes on
  pub parts_next : (part : List ℕ) (from k : ℕ) → length part ≡ part_size → CutTo n part from k → next_length n (length part - from) ≡ 0
      → PartsCut n (frames + k) (samples + from) (sound ++ part)
  parts_next part from k l c e =
      let end = cut-end n part from k c e in
      record {
        parts = p.parts + 1;
        whole = length-append sound part ∙ omega (arith, p.whole);
        count = ap length (behind part) ∙ length-append (cuts n sound) (cuts n part) ∙ omega (arith, p.count, end.0);
        stands = ap (λ x. length (sound_in x)) (behind part) ∙ ap length (sound_in-append (cuts n sound) (cuts n part))
            ∙ length-append (sound_in (cuts n sound)) (sound_in (cuts n part)) ∙ omega (arith, p.stands, end.1);
      }

-- by at most so many octets, or more
pub further : (n size most : ℕ) (run : Run) (end : Result Run Amiss) → size ≤ most → IfOk end (λ r. Further n size run r)
    → IfOk end (λ r. Further n most run r)
further n size most run (Ok r) h f = record { frames = omega (arith, f.frames, h); samples = omega (arith, f.samples, h); whole = f.whole }
further n size most run (Err why) h f = tt

-- In the code's own expressions: k counts the frames of the whole sound, `to` is where the next frame ends
pub begun : (n : ℕ) → PartsIn n 0 0
begun n i = record { sound = []; parts = parts-start n }

pub cut-first : (n : ℕ) (part : List ℕ) (frames : ℕ) → CutTo n part 0 (frames - frames)
cut-first n part frames = let e : frames - frames ≡ 0 = omega arith in rw e (cut-start n part)

module _ (n frames samples : ℕ) (part : List ℕ) (from k : ℕ) (p : PartsIn n frames samples) (l : frames ≤ k)
    (c : CutTo n part from (k - frames)) where
  pub frame-in : (len to : ℕ) → len ≡ next_length n (length part - from) → 1 ≤ len → to ≡ from + len
      → FrameIn n k (samples + from) (take (to - from) (drop from part))
  frame-in len to e some t i =
      let b = p i in
      let d : to - from ≡ len = omega arith in
      let m : frames + (k - frames) ≡ k = omega arith in
      let f = next-frame n frames samples b.sound i b.parts part from (k - frames) len c (sym e) some in
      record {
        sound = b.sound ++ part;
        is = rw d (subst (λ (j : ℕ). FrameOf n (b.sound ++ part) j (samples + from) (take len (drop from part))) m f);
      }

  pub cut_on : (len to : ℕ) → len ≡ next_length n (length part - from) → 1 ≤ len → to ≡ from + len → CutTo n part to (k + 1 - frames)
  cut_on len to e some t =
      let m : k + 1 - frames ≡ k - frames + 1 = omega arith in
      rw (t, m) (cut-next n part from (k - frames) c len (sym e) some)

  pub parts-on : (len : ℕ) → len ≡ next_length n (length part - from) → len ≡ 0 → (end : Ending) → goes_on end (length part) ≡ true
      → PartsIn n k (samples + from)
  parts-on len e z end g i =
      let b = p i in
      let m : frames + (k - frames) ≡ k = omega arith in
      let q = parts_next n frames samples b.sound i b.parts part from (k - frames) (whole_part end (length part) g) c (sym e ∙ z) in
      record { sound = b.sound ++ part; parts = subst (λ (j : ℕ). PartsCut n j (samples + from) (b.sound ++ part)) m q }
    where
      whole_part : (end : Ending) (count : ℕ) → goes_on end count ≡ true → count ≡ part_size
      whole_part (Ok _) count h = eqb-true count part_size h
      whole_part (Err w) count h = let z : ◌≡◌ {A = ℕ} 0 1 = cc in absurd (omega arith)
