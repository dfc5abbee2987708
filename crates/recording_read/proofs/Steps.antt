-- Items one by one: the steps of `items_from` (`items-last`, `items-ended`, `items-full`, `items-off`, `items-one`), and items before
-- the rest of a reading (`after`).
use Prim.Native.Nat.{ℕ, zero, suc, ◌+◌, ◌-◌, ◌≤◌, ◌<◌}
use native.Mathlib.Omega.{arith}
use mathlib.Core.Path.{◌≡◌, refl, sym, ap, ◌∙◌}
use mathlib.Core.List.{List, [], ◌∷◌, ◌++◌, append_assoc, append-nil}
use mathlib.Core.Bool.{Bool, true, false, cond}
use lib.ListN.{length, get_or, drop}
use lib.Dec.{eqb}
use borrow.Author.Tests.{le-leb, lt-leb, ne_eqb}
use Rattle.rules.specs.declared.Refusal.{Refusal}
use Rattle.rules.specs.declared.Refusal.TheVariants as rules
use Rattle.rules.specs.Samples.{mask_of}
use Rattle.rules.specs.Reading.{Read, whole, refuse}
use Rattle.rules.specs.Frame.{Found, octets_used, read_one}
use Rattle.recording.specs.declared.Refusal.TheVariants.{Frame}
use Rattle.std.proofs.Common.{Ok, Err}
use Rattle.recording.specs.Remembered.{lost_octet, erased}
use Rattle.recording.specs.Items.{Item, sound, lost, Recorded, stopped, before, item_of, room_taken, after_read, items_from, sound_of, sound_in}
use Rattle.recording_read.specs.Turns.{Step, takes, stops, frame_step, item_step}

-- what a step leads to: the item and then the rest, or the end
abbrev pub by_step : Step → ℕ → (Item → ℕ → Recorded) → Recorded
by_step (takes i used) at next = next i used
by_step (stops w bit) at next = stopped (Err (Frame w)) at bit

-- the sound of items, one more
pub sound_in-append : (a b : List Item) → sound_in (a ++ b) ≡ sound_in a ++ sound_in b
unfolding sound_in
sound_in-append [] b = refl
sound_in-append (i ∷ a) b = rw (sound_in-append a b, append_assoc)

pub sound_in-more : (a : List Item) (i : Item) → sound_in (a ++ (i ∷ [])) ≡ sound_in a ++ sound_of i
unfolding sound_in
sound_in-more a i = sound_in-append a (i ∷ []) ∙ ap (λ (s : List ℕ). sound_in a ++ s) (append-nil (sound_of i))

-- items, and then the rest of a reading
abbrev pub after : List Item → Recorded → Recorded
after done r = record { items = done ++ r.items; end = r.end; place = r.place; bit = r.bit }

pub after-before : (done : List Item) (i : Item) (r : Recorded) → after done (before i r) ≡ after (done ++ (i ∷ [])) r
after-before done i r =
    ap (λ (l : List Item). record { items = l; end = r.end; place = r.place; bit = r.bit }) (sym (append_assoc done (i ∷ []) r.items))

module _ (octets : List ℕ) (law set : ℕ) where
  pub items-last : (n at room places : ℕ) → n ≡ 0 → items_from n octets law set at room places ≡ stopped (Ok tt) at 0
  unfolding items_from
  items-last n at room places e = rw e

  pub items-ended : (n at room places : ℕ) → length octets ≤ at → items_from n octets law set at room places ≡ stopped (Ok tt) at 0
  unfolding items_from
  items-ended zero at room places h = refl
  items-ended (suc n) at room places h = rw (le-leb (length octets) at h)

  -- the item after an item
  abbrev pub rest_from : ℕ → ℕ → ℕ → ℕ → Item → ℕ → Recorded
  rest_from n at room places i used = before i (items_from n octets law set (at + used) (room - length (sound_of i)) (places - 1))

  module _ (more n at room places : ℕ) (e : more ≡ suc n) (h : at < length octets) where
    pub items-full : places ≡ 0 → items_from more octets law set at room places ≡ stopped (Err (Frame rules.Room)) at 0
    unfolding items_from
    items-full p = rw (e, p, lt-leb (length octets) at h)

    pub items-step : 1 ≤ places
        → items_from more octets law set at room places ≡ by_step (item_step octets law set at room) at (rest_from n at room places)
    unfolding items_from
    items-step p = rw (e, lt-leb (length octets) at h, ne_eqb places 0 (omega arith)) (go (eqb (get_or octets at 0) lost_octet))
      where
        judged : (f : Found) (b : Bool) → before (cond b (lost (length f.samples)) (sound f))
            (items_from n octets law set (at + octets_used f) (room - cond b 0 (length f.samples)) (places - 1))
            ≡ rest_from n at room places (cond b (lost (length f.samples)) (sound f)) (octets_used f)
        judged f true = refl
        judged f false = refl

        one : (m : Read Found) → after_read m at (λ f. before (item_of (mask_of law) f)
            (items_from n octets law set (at + octets_used f) (room - room_taken (mask_of law) f) (places - 1)))
            ≡ by_step (frame_step (mask_of law) m) at (rest_from n at room places)
        one (whole f j) = judged f (erased (mask_of law) f.samples)
        one (refuse w bit) = refl

        go : (b : Bool) → cond b (before (lost 0) (items_from n octets law set (at + 1) room (places - 1)))
            (after_read (read_one (drop at octets) law set room) at (λ f. before (item_of (mask_of law) f)
            (items_from n octets law set (at + octets_used f) (room - room_taken (mask_of law) f) (places - 1))))
            ≡ by_step (cond b (takes (lost 0) 1) (frame_step (mask_of law) (read_one (drop at octets) law set room)))
            at (rest_from n at room places)
        go true = let z : room - 0 ≡ room = omega arith in rw z
        go false = one (read_one (drop at octets) law set room)

    pub items-off : 1 ≤ places → (why : Refusal) (bit : ℕ) → item_step octets law set at room ≡ stops why bit
        → items_from more octets law set at room places ≡ stopped (Err (Frame why)) at bit
    items-off p why bit q = items-step p ∙ ap (λ (s : Step). by_step s at (rest_from n at room places)) q

    pub items-one : 1 ≤ places → (i : Item) (used left fewer : ℕ) → item_step octets law set at room ≡ takes i used
        → left ≡ room - length (sound_of i) → fewer ≡ places - 1
        → items_from more octets law set at room places ≡ before i (items_from n octets law set (at + used) left fewer)
    items-one p i used left fewer q l f =
        items-step p ∙ ap (λ (s : Step). by_step s at (rest_from n at room places)) q ∙ rw (l, f) refl
