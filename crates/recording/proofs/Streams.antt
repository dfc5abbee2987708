-- "document 01 keeps the frames": a file's frames are exactly document 01's.
--   items-of-walk: a file without the octet 01 is its heading and then a stream; its items are the walk's frames, the erasure frames among
--   them as losses, and nothing else differs.
use Prim.Native.Nat.{ℕ, zero, suc, ◌+◌, ◌*◌, ◌-◌, ◌≤◌, ◌<◌}
use native.Mathlib.Omega.{arith}
use mathlib.Core.Path.{◌≡◌, refl, sym, ap, ◌∙◌}
use mathlib.Core.List.{List, map}
use mathlib.Core.Bool.{Bool, true, false, cond}
use lib.ListN.{length, get_or, drop}
use lib.Dec.{eqb, leb}
use borrow.Author.Tests.{ne_eqb, leb-false}
use Rattle.rules.specs.declared.Refusal.{Refusal}
use Rattle.rules.specs.declared.Refusal.TheVariants as rule_room
use Rattle.rules.specs.Refusals as ending
use Rattle.std.proofs.Common.{Ok, Err}
use Rattle.rules.specs.Tools.{is_set, is_law}
use Rattle.rules.specs.Samples.{mask_of}
use Rattle.rules.specs.Reading.{Read, whole, refuse}
use Rattle.rules.specs.Frame.{Found, octets_used, read_one}
use Rattle.rules.specs.Walk as walk
use Rattle.rules.proofs.Room.{read-most, read-room}
use Rattle.promises.proofs.Walks.{uses}
use Rattle.recording.specs.declared.Refusal.TheVariants.{Frame}
use Rattle.recording.specs.Endings.{Ending}
use Rattle.recording.specs.Remembered.{lost_octet, erased}
use Rattle.recording.specs.Items.{lost, Recorded, stopped, before, item_of, room_taken, after_read, items_from}
use Rattle.recording.proofs.Marks.{never-lost}

-- a walk's end, frames and place as a file's
abbrev pub end_of : ending.Ending → Ending
end_of (Ok _) = Ok tt
end_of (Err w) = Err (Frame w)

abbrev pub recorded_of : ℕ → walk.Walked → Recorded
recorded_of mask w = record { items = map (λ d. item_of mask d.found) w.frames; end = end_of w.end; place = w.place; bit = w.bit }

-- enough room for whatever may follow place `at`
abbrev pub Enough : List ℕ → ℕ → ℕ → Type 0
Enough octets at room = 320 * (length octets - at) ≤ room

-- "the rest" of a file where a loss would stand
abbrev after_lost : ℕ → List ℕ → ℕ → ℕ → ℕ → ℕ → ℕ → Recorded
after_lost fuel octets law set at room places = before (lost 0) (items_from fuel octets law set (at + 1) room (places - 1))

-- the next frame of a walk, and of a file
abbrev walk_next : ℕ → List ℕ → ℕ → ℕ → ℕ → ℕ → Found → walk.Walked
walk_next fuel octets law set at room f =
    walk.before (record { place = at; found = f }) (walk.walk_from fuel octets law set (at + octets_used f) (room - length f.samples))

abbrev item_next : ℕ → List ℕ → ℕ → ℕ → ℕ → ℕ → ℕ → Found → Recorded
item_next fuel octets law set at room places f =
    before (item_of (mask_of law) f) (items_from fuel octets law set (at + octets_used f) (room - room_taken (mask_of law) f) (places - 1))

abbrev walk_stop : ℕ → Refusal → ℕ → walk.Walked
walk_stop at w bit = walk.stopped (Err w) at bit

taken-most : (mask : ℕ) (s : List ℕ) (b : Bool) → length s ≤ 320 → cond b 0 (length s) ≤ 320
taken-most mask s true h = omega arith
taken-most mask s false h = h

pub items-of-walk : (fuel : ℕ) (octets : List ℕ) (law set at room room' places : ℕ) → is_law law ≡ true → is_set set ≡ true
    → Enough octets at room → Enough octets at room' → length octets - at ≤ places
    → (get_or octets (walk.walk_from fuel octets law set at room).place 0 ≡ lost_octet → ⊥)
    → items_from fuel octets law set at room' places ≡ recorded_of (mask_of law) (walk.walk_from fuel octets law set at room)
unfolding items_from walk.walk_from
items-of-walk zero octets law set at room room' places l s r r' p n = refl
items-of-walk (suc fuel) octets law set at room room' places l s r r' p n =
    start (leb (length octets) at) refl n (λ f u. items-of-walk fuel octets law set (at + octets_used f) (room - length f.samples)
    (room' - room_taken (mask_of law) f) (places - 1) l s)
  where
    Later : Type 0
    Later = (f : Found) → at < at + octets_used f → Enough octets (at + octets_used f) (room - length f.samples)
        → Enough octets (at + octets_used f) (room' - room_taken (mask_of law) f) → length octets - (at + octets_used f) ≤ places - 1
        → (get_or octets (walk.walk_from fuel octets law set (at + octets_used f) (room - length f.samples)).place 0 ≡ lost_octet → ⊥)
        → items_from fuel octets law set (at + octets_used f) (room' - room_taken (mask_of law) f) (places - 1)
        ≡ recorded_of (mask_of law) (walk.walk_from fuel octets law set (at + octets_used f) (room - length f.samples))

    one : (m : Read Found) → read_one (drop at octets) law set room ≡ m → read_one (drop at octets) law set room' ≡ m → at < length octets
        → (get_or octets (walk.onward m (walk_next fuel octets law set at room) (walk_stop at)).place 0 ≡ lost_octet → ⊥) → Later
        → cond (eqb (get_or octets at 0) lost_octet) (after_lost fuel octets law set at room' places)
        (after_read m at (item_next fuel octets law set at room' places))
        ≡ recorded_of (mask_of law) (walk.onward m (walk_next fuel octets law set at room) (walk_stop at))
    one (whole f j) e e' h n later =
        let u = uses octets law set at room h e in
        let m = read-most (drop at octets) law set room e in
        let t = taken-most (mask_of law) f.samples (erased (mask_of law) f.samples) m in
        rw (never-lost octets law set at room l s h e)
        (ap (before (item_of (mask_of law) f)) (later f u.0 (omega arith) (omega arith) (omega arith) n))
    one (refuse w bit) e e' h n later = rw (ne_eqb (get_or octets at 0) lost_octet n) refl

    start : (b : Bool) → leb (length octets) at ≡ b → (get_or octets (cond b (walk.stopped (Ok tt) at 0)
        (walk.onward (read_one (drop at octets) law set room) (walk_next fuel octets law set at room) (walk_stop at))).place 0
        ≡ lost_octet → ⊥) → Later → cond b (stopped (Ok tt) at 0) (cond (eqb places 0) (stopped (Err (Frame rule_room.Room)) at 0)
        (cond (eqb (get_or octets at 0) lost_octet) (after_lost fuel octets law set at room' places)
        (after_read (read_one (drop at octets) law set room') at (item_next fuel octets law set at room' places))))
        ≡ recorded_of (mask_of law) (cond b (walk.stopped (Ok tt) at 0)
        (walk.onward (read_one (drop at octets) law set room) (walk_next fuel octets law set at room) (walk_stop at)))
    start true e n later = refl
    start false e n later =
        let h = leb-false (length octets) at e in
        let same : read_one (drop at octets) law set room' ≡ read_one (drop at octets) law set room
        = read-room (drop at octets) law set room' (omega arith) ∙ sym (read-room (drop at octets) law set room (omega arith)) in
        rw (ne_eqb places 0 (omega arith), same) (one (read_one (drop at octets) law set room) refl same h n later)
