-- What is lent to the calls within: a frame from `from` to `to`, the output from `at` on, whole, and the start of a page.
use Prim.Native.Nat.{ℕ, ◌+◌, ◌-◌, ◌≤◌}
use mathlib.Core.Path.{◌≡◌, refl, sym, ap, subst, ◌∙◌}
use mathlib.Core.List.{List, ◌++◌, append_assoc}
use native.Mathlib.Omega.{arith}
use lib.ListN.{length, take, drop, length-drop, take-append-drop}
use lib.Seq.{length-take-le, drop-append-le}
use Rattle.rules.specs.declared.Refusal.{Refusal}
use Rattle.rules.specs.Refusals.{Ending}
use Rattle.std.proofs.Common.{Ok, Err}
use Rattle.rules.specs.declared.WriteAnswer.{WriteAnswer}
use Rattle.rules.specs.Chooses.{write_one}
use Rattle.rules.specs.Calls.{at_start, Writes}
use Rattle.rules.proofs.Lent.{from_on, back_on}
use Rattle.tool_packing.specs.declared.packing.PackAnswer.{PackAnswer}
use Rattle.tool_packing.specs.Cuts.{sound_in}
use Rattle.tool_packing.specs.Packing.{stream_of, pack_all, Packs, Pack}
use Rattle.tool_packing.specs.Parts.{PutsFrame, packed_on, room_on, PacksAfter, PackOn}
use Rattle.tool_packing.proofs.Whole.{pack-bounds}

pub frame-put : (sound : List ℕ) (from to law set at : ℕ) (out last : List ℕ) {r : WriteAnswer} → from ≤ to → to ≤ length sound
    → Writes (write_one (length (take (to - from) (drop from sound))) (take (to - from) (drop from sound)) law set
    (length (take (length out - at) (drop at out)))) r
    (take (length out - at) (drop at out)) last
    → PutsFrame sound from (to - from) law set at out (take at out ++ (last ++ drop (length out - at) (drop at out))) r
frame-put sound from to law set at out last f t h =
    record {
      rest = last;
      writes = rw (
        from_on out at,
        length-drop at out,
        length-take-le (to - from) (drop from sound)
            (omega (arith, length-drop from sound)),
      ) at h;
      lent = ap (λ (x : List ℕ). take at out ++ x) (back_on out at last);
    }

-- what was refused stays refused, and the page as lent
pub stays-refused : (done : PackAnswer) (part : List ℕ) (law set n : ℕ) (page : List ℕ) (why : Refusal) → done.end ≡ Err why
    → PackOn done part law set n page page done
unfolding sound_in stream_of
stays-refused done part law set n page why q =
    subst (λ (e : Ending). PacksAfter done law set (packed_on e part law set n (room_on done.octets (length page))) page page done) (sym q)
    (record { end = q; frames = omega arith; samples = omega arith; octets = omega arith; lent = refl })

-- a list at the start of the first k octets of a page: then they and the rest are the page with it at its start
front-lent : (s page : List ℕ) (k : ℕ) → k ≤ length page → length s ≤ k → at_start s (take k page) ++ drop k page ≡ at_start s page
front-lent s page k h l =
    let t : List ℕ = take k page in
    append_assoc s (drop (length s) t) (drop k page) ∙ ap (λ (x : List ℕ). s ++ x)
    (sym (drop-append-le (length s) t (drop k page) (omega (arith, length-take-le k page h)))
    ∙ ap (drop (length s)) (take-append-drop k page))

-- a part packed into as much of the page as the longest stream has left
pub part-packed : (done : PackAnswer) (part : List ℕ) (law set n room : ℕ) (page rest : List ℕ) {p : PackAnswer} → done.end ≡ Ok tt
    → room ≡ room_on done.octets (length page) → Pack part law set n (take room page) rest p
    → PackOn done part law set n page (rest ++ drop room page)
    (record { end = p.end; frames = done.frames + p.frames; samples = done.samples + p.samples; octets = done.octets + p.octets })
part-packed done part law set n room page rest {p} q e h =
    let fits : room ≤ length page = omega (arith, e) in
    let size : length (take room page) ≡ room = length-take-le room page fits in
    let w : Packs law set (pack_all part law set n room) p (take room page) rest = rw size at h in
    let most = (pack-bounds part law set n room).octets-most in
    let s = stream_of law set (pack_all part law set n room).frames in
    rw (q, ← e) (record {
      end = w.end;
      frames = ap (λ (x : ℕ). done.frames + x) w.frames;
      samples = ap (λ (x : ℕ). done.samples + x) w.samples;
      octets = ap (λ (x : ℕ). done.octets + x) w.octets;
      lent = ap (λ (x : List ℕ). x ++ drop room page) w.lent ∙ front-lent s page room fits most;
    })
