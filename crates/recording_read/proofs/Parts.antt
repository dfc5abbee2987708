-- A reading is its parts one after another (`items-parts`, `items-on`, `items_kept`); what is true of every reading (`items-told`); items
-- allowed above the octets left do not matter (`items-fuel`); 320 samples and a place for each item are always enough (`items-roomy`), so a
-- caller may read each part into the same output (`items-piece`, `items-stopped`, `items_left`).
use Prim.Native.Nat.{ℕ, zero, suc, ◌+◌, ◌*◌, ◌-◌, ◌≤◌, ◌<◌, min}
use native.Mathlib.Omega.{arith}
use native.Mathlib.Nat.{add_comm}
use mathlib.Core.Path.{◌≡◌, refl, sym, ap, subst, ◌∙◌}
use mathlib.Core.List.{List, ◌++◌}
use mathlib.Core.Bool.{Bool, true, false, cond}
use lib.ListN.{length, get_or, drop, length-append}
use lib.Dec.{eqb, leb}
use borrow.Author.Tests.{leb-true, leb-false}
use Rattle.rules.specs.declared.Refusal as rule
use Rattle.rules.specs.declared.Refusal.TheVariants as rules
use Rattle.rules.specs.Samples.{mask_of}
use Rattle.rules.specs.Reading.{Read}
use Rattle.rules.specs.Frame.{Found}
use Rattle.rules.proofs.Room.{read-room}
use Rattle.recording.specs.declared.Refusal.{Refusal}
use Rattle.recording.specs.declared.Refusal.TheVariants.{Frame}
use Rattle.recording.specs.Endings.{Ending}
use Rattle.std.proofs.Common.{Ok, Err}
use Rattle.recording.specs.Remembered.{lost_octet}
use Rattle.recording.specs.Items.{Item, lost, Recorded, stopped, before, items_from, sound_of, sound_in}
use Rattle.recording_read.specs.Turns.{Step, takes, stops, frame_step, item_step}
use Rattle.recording_read.proofs.Turning.{Fits, step_fits}
use Rattle.recording_read.proofs.Steps.{by_step, after, rest_from, items-last, items-ended, items-full, items-step, items-off}
use Rattle.recording_read.proofs.Steps.{items-one}

-- by how a reading ended: `more` after a clean end, `kept` after a refusal
abbrev pub by_end : Ending → Recorded → Recorded → Recorded
by_end (Ok _) more kept = more
by_end (Err r) more kept = kept

module _ (octets : List ℕ) (law set : ℕ) where
  -- a reading of at most so many items, from a place on, with so much room and so many places
  pub data Reads : ℕ → ℕ → ℕ → ℕ → Recorded → Type 0 where
    last : {at room places : ℕ} → Reads 0 at room places (stopped (Ok tt) at 0)
    ended : {n at room places : ℕ} → length octets ≤ at → Reads n at room places (stopped (Ok tt) at 0)
    full : {n at room : ℕ} → at < length octets → Reads (suc n) at room 0 (stopped (Err (Frame rules.Room)) at 0)
    refused : {n at room places : ℕ} {w : rule.Refusal} {bit : ℕ} → at < length octets → item_step octets law set at room ≡ stops w bit
        → Reads (suc n) at room (suc places) (stopped (Err (Frame w)) at bit)
    delivers : {n at room places : ℕ} {i : Item} {used : ℕ} {rest : Recorded} → at < length octets
        → item_step octets law set at room ≡ takes i used
        → Reads n (at + used) (room - length (sound_of i)) places rest → Reads (suc n) at room (suc places) (before i rest)

  pub reads : (n at room places : ℕ) → Reads n at room places (items_from n octets law set at room places)
  reads zero at room places = subst (Reads 0 at room places) (sym (items-last octets law set 0 at room places refl)) (last {at = at})
  reads (suc n) at room places = start (leb (length octets) at) refl places (λ i used. reads n (at + used) (room - length (sound_of i)))
    where
      Later : Type 0
      Later = (i : Item) (used places : ℕ) → Reads n (at + used) (room - length (sound_of i)) places
          (items_from n octets law set (at + used) (room - length (sound_of i)) places)

      one : (places : ℕ) (s : Step) → item_step octets law set at room ≡ s → at < length octets → Later
          → Reads (suc n) at room (suc places) (by_step s at (rest_from octets law set n at room (suc places)))
      one places (takes i used) e l later =
          let z : suc places - 1 ≡ places = omega arith in
          rw z (delivers l e (later i used places))
      one places (stops w bit) e l later = refused l e

      start : (b : Bool) → leb (length octets) at ≡ b → (places : ℕ) → Later
          → Reads (suc n) at room places (items_from (suc n) octets law set at room places)
      start true e places later =
          let h = leb-true (length octets) at e in
          subst (Reads (suc n) at room places) (sym (items-ended octets law set (suc n) at room places h)) (ended h)
      start false e zero later =
          let h = leb-false (length octets) at e in
          subst (Reads (suc n) at room 0) (sym (items-full octets law set (suc n) n at room 0 refl h refl)) (full h)
      start false e (suc places) later =
          let h = leb-false (length octets) at e in
          subst (Reads (suc n) at room (suc places)) (sym (items-step octets law set (suc n) n at room (suc places) refl h (omega arith)))
          (one places (item_step octets law set at room) refl h later)

  -- an item that is delivered fits
  fits : {at room : ℕ} {i : Item} {used : ℕ} → at < length octets → item_step octets law set at room ≡ takes i used
      → (1 ≤ used) × (at + used ≤ length octets) × (length (sound_of i) ≤ room)
  fits {at} {room} h e = subst (Fits octets at room) e (step_fits octets law set at room h)

  -- room for 320 samples is enough for an item
  step_room : (at room : ℕ) → 320 ≤ room → item_step octets law set at room ≡ item_step octets law set at 320
  step_room at room h =
      ap (λ (m : Read Found). cond (eqb (get_or octets at 0) lost_octet) (takes (lost 0) 1) (frame_step (mask_of law) m))
      (read-room (drop at octets) law set room h)

  -- an item has at most 320 samples
  most : (room : ℕ) {at : ℕ} {i : Item} {used : ℕ} → at < length octets → item_step octets law set at room ≡ takes i used
      → length (sound_of i) ≤ 320
  most room {at} {i} h e = go (leb 320 room) refl
    where
      go : (b : Bool) → leb 320 room ≡ b → length (sound_of i) ≤ 320
      go true l = (fits h (sym (step_room at room (leb-true 320 room l)) ∙ e)).2
      go false l = omega (arith, (fits h e).2, leb-false 320 room l)

  -- there is one such reading
  pub reads_only : {n at room places : ℕ} {r : Recorded} → Reads n at room places r → items_from n octets law set at room places ≡ r
  reads_only {at = at} {room} {places} last = items-last octets law set 0 at room places refl
  reads_only {n} {at} {room} {places} (ended l) = items-ended octets law set n at room places l
  reads_only {n = suc n} {at} {room} (full l) = items-full octets law set (suc n) n at room 0 refl l refl
  reads_only {n = suc n} {at} {room} {places = suc places} (refused {w = w} {bit = bit} l e) =
      items-off octets law set (suc n) n at room (suc places) refl l (omega arith) w bit e
  reads_only {n = suc n} {at} {room} {places = suc places} (delivers {i = i} {used = used} l e t) =
      items-one octets law set (suc n) n at room (suc places) refl l (omega arith) i used (room - length (sound_of i))
      places e refl (omega arith) ∙ ap (before i) (reads_only t)

  -- what is true of every reading
  pub record Told (n at room places : ℕ) (r : Recorded) : Type 0 where
    pub fits : length (sound_in r.items) ≤ room
    pub held : length (sound_in r.items) ≤ 320 * length r.items
    pub few : length r.items ≤ n
    pub placed : length r.items ≤ places
    pub some : at + length r.items ≤ r.place
    pub inside : at ≤ length octets → r.place ≤ length octets
    -- it ended clean: all items that are allowed are there, or it is at the end
    pub all : r.end ≡ Ok tt → length r.items < n → length octets ≤ r.place
    pub full : r.end ≡ Ok tt → r.place < length octets → length r.items ≡ n
    pub clean : r.end ≡ Ok tt → r.bit ≡ 0

  -- Done is no refusal
  not-refused : {A : Type 0} {r : Refusal} → ◌≡◌ {A = Ending} (Err r) (Ok tt) → A
  not-refused e = let z : ◌≡◌ {A = ℕ} 0 1 = cc in absurd (omega arith)

  told_none : (n at room places : ℕ) → (0 < n → length octets ≤ at) → (at < length octets → 0 ≡ n)
      → Told n at room places (stopped (Ok tt) at 0)
  unfolding sound_in
  told_none n at room places h g =
      record {
        fits = omega arith;
        held = omega arith;
        few = omega arith;
        placed = omega arith;
        some = omega arith;
        inside = λ l. l;
        all = λ e k. h k;
        full = λ e k. g k;
        clean = λ e. refl;
      }

  told-stop : (n at room places : ℕ) (why : Refusal) (bit : ℕ) → Told n at room places (stopped (Err why) at bit)
  unfolding sound_in
  told-stop n at room places why bit =
      record {
        fits = omega arith;
        held = omega arith;
        few = omega arith;
        placed = omega arith;
        some = omega arith;
        inside = λ l. l;
        all = λ e. not-refused e;
        full = λ e. not-refused e;
        clean = λ e. not-refused e;
      }

  reads-told : {n at room places : ℕ} {r : Recorded} → Reads n at room places r → Told n at room places r
  unfolding sound_in
  reads-told {n} {at} {room} {places} last = told_none 0 at room places (λ k. absurd (omega arith)) (λ k. refl)
  reads-told {n} {at} {room} {places} (ended h) = told_none n at room places (λ k. h) (λ k. absurd (omega arith))
  reads-told {n} {at} {room} {places} (full h) = told-stop n at room 0 (Frame rules.Room) 0
  reads-told {n} {at} {room} {places} (refused {w = w} {bit = bit} h e) = told-stop n at room places (Frame w) bit
  reads-told {n = suc n} {at} {room} {places} (delivers {i = i} {rest = r} h e t) =
      let k = reads-told t in
      let f = fits h e in
      record {
        fits = omega (arith, k.fits, f.2, length-append (sound_of i) (sound_in r.items));
        held = omega (arith, k.held, most room h e, length-append (sound_of i) (sound_in r.items));
        few = omega (arith, k.few);
        placed = omega (arith, k.placed);
        some = omega (arith, k.some, f.0);
        inside = λ l. k.inside f.1;
        all = λ d m. k.all d (omega arith);
        full = λ d m. omega (arith, k.full d m);
        clean = λ d. k.clean d;
      }

  pub items-told : (n at room places : ℕ) → Told n at room places (items_from n octets law set at room places)
  items-told n at room places = reads-told (reads n at room places)

  -- the reading taken up again where it ended
  abbrev pub on_from : ℕ → ℕ → ℕ → Recorded → Recorded
  on_from n room places r =
      after r.items (items_from n octets law set r.place (room - length (sound_in r.items)) (places - length r.items))

  parts : {m at room places : ℕ} {r : Recorded} → Reads m at room places r → (n : ℕ)
      → items_from (m + n) octets law set at room places ≡ by_end r.end (on_from n room places r) r
  unfolding sound_in
  parts {m} {at} {room} {places} last n =
      let a : room - 0 ≡ room = omega arith in
      let b : places - 0 ≡ places = omega arith in
      let z : 0 + n ≡ n = omega arith in
      rw (a, b, z)
  parts {m} {at} {room} {places} (ended h) n =
      items-ended octets law set (m + n) at room places h ∙ sym (items-ended octets law set n at (room - 0) (places - 0) h)
  parts {m = suc m} {at} {room} (full h) n = items-full octets law set (suc m + n) (m + n) at room 0 (omega arith) h refl
  parts {m = suc m} {at} {room} {places = suc places} (refused {w = w} {bit = bit} h e) n =
      items-off octets law set (suc m + n) (m + n) at room (suc places) (omega arith) h (omega arith) w bit e
  parts {m = suc m} {at} {room} {places = suc places} (delivers {i = i} {used = used} {rest = r} h e t) n =
      items-one octets law set (suc m + n) (m + n) at room (suc places) (omega arith) h (omega arith) i used
      (room - length (sound_of i)) places e
      refl (omega arith) ∙ ap (before i) (parts t n) ∙ go r.end
    where
      left : room - length (sound_of i ++ sound_in r.items) ≡ room - length (sound_of i) - length (sound_in r.items)
      left = omega (arith, length-append (sound_of i) (sound_in r.items))

      fewer : suc places - suc (length r.items) ≡ places - length r.items
      fewer = omega arith

      go : (end : Ending) → before i (by_end end (on_from n (room - length (sound_of i)) places r) r)
          ≡ by_end end (on_from n room (suc places) (before i r)) (before i r)
      go (Ok _) = rw (left, fewer)
      go (Err w) = refl

  -- a reading of m + n items is one of m items and, where that ended clean, one of n items from its place on, with the room and places left
  pub items-parts : (m n at room places : ℕ) → items_from (m + n) octets law set at room places
      ≡ by_end (items_from m octets law set at room places).end (on_from n room places (items_from m octets law set at room places))
      (items_from m octets law set at room places)
  items-parts m n at room places = parts (reads m at room places) n

  pub items-on : (m n at room places : ℕ) → (items_from m octets law set at room places).end ≡ Ok tt
      → items_from (m + n) octets law set at room places ≡ on_from n room places (items_from m octets law set at room places)
  items-on m n at room places e =
      let r = items_from m octets law set at room places in
      items-parts m n at room places ∙ ap (λ (end : Ending). by_end end (on_from n room places r) r) e

  -- more items allowed do not change a refused reading
  pub items_kept : (m n at room places : ℕ) {why : Refusal} → (items_from m octets law set at room places).end ≡ Err why
      → items_from (m + n) octets law set at room places ≡ items_from m octets law set at room places
  items_kept m n at room places e =
      let r = items_from m octets law set at room places in
      items-parts m n at room places ∙ ap (λ (end : Ending). by_end end (on_from n room places r) r) e

  -- items allowed above the octets left do not matter
  fuel : {m at room places : ℕ} {r : Recorded} → Reads m at room places r → length octets ≤ at + m → (n : ℕ)
      → items_from (m + n) octets law set at room places ≡ r
  fuel {at = at} {room} {places} last h n = items-ended octets law set (0 + n) at room places (omega arith)
  fuel {m} {at} {room} {places} (ended l) h n = items-ended octets law set (m + n) at room places l
  fuel {m = suc m} {at} {room} (full l) h n = items-full octets law set (suc m + n) (m + n) at room 0 (omega arith) l refl
  fuel {m = suc m} {at} {room} {places = suc places} (refused {w = w} {bit = bit} l e) h n =
      items-off octets law set (suc m + n) (m + n) at room (suc places) (omega arith) l (omega arith) w bit e
  fuel {m = suc m} {at} {room} {places = suc places} (delivers {i = i} {used = used} l e t) h n =
      items-one octets law set (suc m + n) (m + n) at room (suc places) (omega arith) l (omega arith) i used
      (room - length (sound_of i)) places e
      refl (omega arith) ∙ ap (before i) (fuel t (omega (arith, (fits l e).0)) n)

  pub items-fuel : (m n at room places : ℕ) → length octets ≤ at + m → length octets ≤ at + n
      → items_from m octets law set at room places ≡ items_from n octets law set at room places
  items-fuel m n at room places h k =
      sym (fuel (reads m at room places) h n) ∙ ap (λ (k : ℕ). items_from k octets law set at room places) (add_comm m n)
      ∙ fuel (reads n at room places) k m

  -- enough room, and enough places, for the items allowed and for the octets left
  abbrev pub Roomy : ℕ → ℕ → ℕ → ℕ → Type 0
  Roomy n at room places = (320 * min n (length octets - at) ≤ room) × (min n (length octets - at) ≤ places)

  roomy : {n at room places : ℕ} {r : Recorded} → Reads n at room places r → (more others : ℕ) → Roomy n at room places
      → Roomy n at more others → items_from n octets law set at more others ≡ r
  roomy {at = at} last more others h k = items-last octets law set 0 at more others refl
  roomy {n} {at} (ended l) more others h k = items-ended octets law set n at more others l
  roomy {n = suc n} {at} (full l) more others h k = absurd (omega (arith, h.1))
  roomy {n = suc n} {at} {room} {places = suc places} (refused {w = w} {bit = bit} l e) more others h k =
      items-off octets law set (suc n) n at more others refl l (omega (arith, k.1)) w bit
      (step_room at more (omega (arith, k.0)) ∙ sym (step_room at room (omega (arith, h.0))) ∙ e)
  roomy {n = suc n} {at} {room} {places = suc places} (delivers {i = i} {used = used} l e t) more others h k =
      let least = sym (step_room at room (omega (arith, h.0))) ∙ e in
      let f = fits l e in
      let m = fits l least in
      items-one octets law set (suc n) n at more others refl l (omega (arith, k.1)) i used (more - length (sound_of i)) (others - 1)
      (step_room at more (omega (arith, k.0)) ∙ least) refl refl ∙ ap (before i) (roomy t (more - length (sound_of i)) (others - 1)
      (omega (arith, h.0, f.0, m.2), omega (arith, h.1, f.0)) (omega (arith, k.0, f.0, m.2), omega (arith, k.1, f.0)))

  pub items-roomy : (n at room places more others : ℕ) → Roomy n at room places → Roomy n at more others
      → items_from n octets law set at room places ≡ items_from n octets law set at more others
  items-roomy n at room places more others h k = sym (roomy (reads n at room places) more others h k)

  -- one part of a reading whose room is ample, read with ample room of its own: the rest follows, and has ample room too
  module _ (m n at room places more others : ℕ) (h : Roomy (m + n) at more others) (k : Roomy m at room places) where
    same : items_from m octets law set at more others ≡ items_from m octets law set at room places
    same = items-roomy m at more others room places (omega (arith, h.0), omega (arith, h.1)) k

    pub items-piece : (items_from m octets law set at room places).end ≡ Ok tt
        → items_from (m + n) octets law set at more others ≡ on_from n more others (items_from m octets law set at room places)
    items-piece e = items-on m n at more others (ap (λ (r : Recorded). r.end) same ∙ e) ∙ ap (on_from n more others) same

    pub items-stopped : {why : Refusal} → (items_from m octets law set at room places).end ≡ Err why
        → items_from (m + n) octets law set at more others ≡ items_from m octets law set at room places
    items-stopped e = items_kept m n at more others (ap (λ (r : Recorded). r.end) same ∙ e) ∙ same

    pub items_left : (items_from m octets law set at room places).end ≡ Ok tt
        → Roomy n (items_from m octets law set at room places).place
        (more - length (sound_in (items_from m octets law set at room places).items))
        (others - length (items_from m octets law set at room places).items)
    items_left e = go (items_from m octets law set at room places) (items-told m at room places) e (leb (length octets) _) refl
      where
        go : (r : Recorded) → Told m at room places r → r.end ≡ Ok tt → (b : Bool) → leb (length octets) r.place ≡ b
            → Roomy n r.place (more - length (sound_in r.items)) (others - length r.items)
        go r t e true l = let z = leb-true (length octets) r.place l in (omega arith, omega arith)
        go r t e false l =
            let z = leb-false (length octets) r.place l in
            let c = t.full e z in
            (omega (arith, h.0, t.held, t.some), omega (arith, h.1, t.some))
