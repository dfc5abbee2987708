-- A part packed after others keeps within the sound and the room; and where it was packed well it takes room, so that packing part after
-- part ends.
use Prim.Native.Nat.{ℕ, ◌+◌, ◌-◌, ◌≤◌, ◌<◌}
use native.Mathlib.Omega.{arith}
use mathlib.Core.Path.{◌≡◌, refl, sym, ap, ◌∙◌}
use mathlib.Core.List.{List}
use mathlib.Core.Bool.{Bool, true, false}
use lib.ListN.{length, take, drop, length-append}
use lib.Seq.{length-take-le}
use lib.Dec.{eqb}
use borrow.Author.Tests.{eqb-true, eqb-false}
use Rattle.rules.specs.Refusals.{Ending}
use Rattle.std.proofs.Common.{Ok, Err}
use Rattle.rules.specs.Tools.{is_writer_set}
use Rattle.rules.specs.Samples.{mask_of}
use Rattle.rules.specs.Walk.{longest}
use Rattle.rules.proofs.Octets.{Below, below-take}
use Rattle.promises.proofs.Written.{Frames, full, chosen-short}
use Rattle.tool_packing.specs.declared.packing.PackAnswer.{PackAnswer}
use Rattle.tool_packing.specs.Cuts.{next_length, cuts, sound_in}
use Rattle.tool_packing.specs.Packing.{form_octets, stream_of}
use Rattle.tool_packing.specs.Parts.{packed_on, room_on, PacksAfter, PackOn}
use Rattle.tool_packing.proofs.Lengths.{next_fits}
use Rattle.tool_packing.proofs.Cuts.{cuts-none, cuts-next}
use Rattle.tool_packing.proofs.Whole.{Bounds, pack-bounds, none_kept, not_done, well-packed}

-- a frame has an octet
form-some : (law set : ℕ) {s : List ℕ} → is_writer_set set ≡ true → Frames s → 1 ≤ length (form_octets law set s)
unfolding form_octets
form-some law set o f = (chosen-short (mask_of law) set o f).some

cuts-some : (law set n : ℕ) (s : List ℕ) → is_writer_set set ≡ true → Below 256 s → 1 ≤ length (sound_in (cuts n s))
    → 1 ≤ length (stream_of law set (cuts n s))
unfolding sound_in stream_of
cuts-some law set n s o b h = go (next_length n (length s)) refl (eqb (next_length n (length s)) 0) refl
  where
    go : (l : ℕ) → next_length n (length s) ≡ l → (t : Bool) → eqb l 0 ≡ t → 1 ≤ length (stream_of law set (cuts n s))
    go l q true e = absurd (omega (arith, h, ap (λ x. length (sound_in x)) (cuts-none n s (q ∙ eqb-true l 0 e))))
    go l q false e =
        let z = eqb-false l 0 e in
        let some : 1 ≤ l = omega (arith, z) in
        let f = next_fits n (length s) l (sym q) some in
        let first = take l s in
        let fs : Frames first = full {s = first} (rw (length-take-le l s f.within) f.allowed) (below-take l b) in
        rw (cuts-next n l s q some)
        (omega (arith, form-some law set o fs, length-append (form_octets law set first) (stream_of law set (cuts n (drop l s)))))

-- what a part adds: to the frames, the sound and the octets, which the page and the longest stream hold
pub record Adds (part page : ℕ) (done r : PackAnswer) : Type 0 where
  pub frames : r.frames ≤ done.frames + part
  pub samples : r.samples ≤ done.samples + part
  pub grows : done.octets ≤ r.octets
  pub paged : r.octets - done.octets ≤ page
  pub octets : r.octets ≤ longest

pub on-adds : (part : List ℕ) (law set n : ℕ) (page page' : List ℕ) {done r : PackAnswer} → done.octets ≤ longest
    → PackOn done part law set n page page' r → Adds (length part) (length page) done r
on-adds part law set n page page' {done} {r} h t = go (bounds done.end)
  where
    room : ℕ
    room = room_on done.octets (length page)

    bounds : (e : Ending) → Bounds (length part) (length part) room (packed_on e part law set n room) law set
    bounds (Ok _) = pack-bounds part law set n room
    bounds (Err why) = none_kept law set room (length part) (length part) (Err why)

    go : Bounds (length part) (length part) room (packed_on done.end part law set n room) law set
        → Adds (length part) (length page) done r
    go b =
        record {
          frames = omega (arith, t.frames, b.frames-most);
          samples = omega (arith, t.samples, b.samples-most);
          grows = omega (arith, t.octets);
          paged = omega (arith, t.octets, b.octets-most);
          octets = omega (arith, t.octets, b.octets-most);
        }

pub on-takes-room : (part : List ℕ) (law set n : ℕ) (page page' : List ℕ) {done r : PackAnswer} → Below 256 part → 1 ≤ length part
    → PackOn done part law set n page page' r → r.end ≡ Ok tt → done.octets < r.octets
on-takes-room part law set n page page' {done} {r} b h t e = go done.end t
  where
    go : (d : Ending) → PacksAfter done law set (packed_on d part law set n (room_on done.octets (length page))) page page' r
        → done.octets < r.octets
    go (Err why) t = not_done why (sym t.end ∙ e)
    go (Ok tt) t =
        let room = room_on done.octets (length page) in
        let w = well-packed part law set n room (sym t.end ∙ e) in
        let all : 1 ≤ length (sound_in (cuts n part)) = rw w.frames at (rw (← w.sound-whole) at h) in
        omega (arith, t.octets, rw (← w.frames) at (cuts-some law set n part w.odd b all))
