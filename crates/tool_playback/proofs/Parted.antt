-- What was read, as a part, and what a caller goes by.
use Prim.Native.Nat.{ℕ, ◌+◌, ◌≤◌, ◌<◌}
use mathlib.Core.Path.{◌≡◌, refl, sym, ap, subst, ◌∙◌}
use mathlib.Core.List.{List, [], ◌∷◌, map}
use mathlib.Core.Bool.{Bool, true, false, cond, false≢true}
use native.Mathlib.Omega.{arith}
use lib.ListN.{length, get_or, take, drop, length-map}
use lib.Seq.{take_at}
use lib.Dec.{eqb}
use borrow.Author.Tests.{le-leb, lt-leb, ltb-true}
use Rattle.rules.specs.Samples.{mask_of}
use Rattle.rules.specs.Reading.{Read, whole, refuse}
use Rattle.rules.specs.Frame.{Found, read_one}
use Rattle.rules.specs.Walk.{walk_from}
use Rattle.rules.specs.Calls.{at_start}
use Rattle.rules.specs.Chooses.{count_of}
use Rattle.rules.proofs.Room.{read-most}
use Rattle.recording.specs.Endings.{Ending}
use Rattle.std.proofs.Common.{Ok, Err}
use Rattle.recording.specs.Remembered.{lost_octet, erased}
use Rattle.recording.specs.Items.{Item, sound, lost, Recorded, item_of, items_from, sound_of, cell_of, loss_from}
use Rattle.recording_read.specs.Turns.{Step, takes, stops, frame_step, item_step}
use Rattle.recording_read.proofs.Parts.{Reads, last, ended, full, refused, delivers, reads, items-told}
use Rattle.recording_read.specs.declared.Played.{Played}
use Rattle.recording_read.specs.Plays.{Plays}
use Rattle.tool_playback.specs.declared.parts.Reading.{Reading}
use Rattle.tool_playback.specs.declared.parts.Part.{Part}
use Rattle.tool_playback.specs.Heard.{streamed, heard_as, Hears}
use Rattle.tool_playback.specs.Parts.{sure_items, part_of, goes_on, loss_of, losses_in, is_loss, loss_cells, NextPart, Goes, Answers}
use Rattle.tool_playback.proofs.Heard.{frames-none, heard-told}

-- more is to come only of a part that ended clean before the end
pub more-inside : (end : Ending) (place size : ℕ) → goes_on end place size ≡ true → (end ≡ Ok tt) × (place < size)
more-inside (Ok _) place size e = (refl, ltb-true place size e)
more-inside (Err why) place size e = absurd (false≢true e)

-- the losses of items told as numbers are the items' own: a frame has at most 320 samples
cell-loss : (i : Item) → length (sound_of i) ≤ 320 → cond (is_loss (cell_of i)) 1 0 ≡ loss_of i
cell-loss (sound f) h = rw (lt-leb loss_from (length f.samples) (omega arith))
cell-loss (lost n) h = rw (le-leb loss_from (loss_from + n) (omega arith))

-- an item's sound has at most 320 samples
abbrev Most : Step → Type 0
Most (takes i used) = length (sound_of i) ≤ 320
Most (stops w bit) = 0 ≤ 320

sound-most : (mask : ℕ) (f : Found) → length f.samples ≤ 320 → length (sound_of (item_of mask f)) ≤ 320
sound-most mask f h = go (erased mask f.samples)
  where
    go : (b : Bool) → length (sound_of (cond b (lost (length f.samples)) (sound f))) ≤ 320
    go true = omega arith
    go false = h

module _ (octets : List ℕ) (law set : ℕ) where
  step-most : (at room : ℕ) → Most (item_step octets law set at room)
  step-most at room = go (eqb (get_or octets at 0) lost_octet) (read_one (drop at octets) law set room) refl
    where
      go : (b : Bool) (m : Read Found) → read_one (drop at octets) law set room ≡ m
          → Most (cond b (takes (lost 0) 1) (frame_step (mask_of law) m))
      go true m e = omega arith
      go false (whole f j) e = sound-most (mask_of law) f (read-most (drop at octets) law set room e)
      go false (refuse w bit) e = omega arith

  item-most : (at room : ℕ) {i : Item} {used : ℕ} → item_step octets law set at room ≡ takes i used → length (sound_of i) ≤ 320
  item-most at room e = subst Most e (step-most at room)

  reads-losses : {n at room places : ℕ} {r : Recorded} → Reads octets law set n at room places r
      → loss_cells (map cell_of r.items) ≡ losses_in r.items
  unfolding count_of losses_in
  reads-losses last = refl
  reads-losses (ended h) = refl
  reads-losses (full h) = refl
  reads-losses (refused h e) = refl
  reads-losses {at = at} {room} (delivers {i = i} {rest = r} h e t) = rw (cell-loss i (item-most at room e), reads-losses t)

pub losses-few : (is : List Item) → losses_in is ≤ length is
unfolding losses_in
losses-few [] = omega arith
losses-few (sound f ∷ is) = omega (arith, losses-few is)
losses-few (lost n ∷ is) = omega (arith, losses-few is)

-- the cells of the items played
cells_told : {w : Recorded} {p : Played} {out out' cells cells' : List ℕ} → Plays w p out out' cells cells'
    → take p.items cells' ≡ map cell_of w.items
cells_told {w} {p} {cells = cells} t =
    rw t.told (take_at (map cell_of w.items) (drop (length (map cell_of w.items)) cells) p.items
    (length-map w.items cell_of ∙ sym t.items))

module _ (octets : List ℕ) (h : Reading) (at : ℕ) (out cells : List ℕ) where
  abbrev part : Recorded
  part = part_of octets h at (length out) (length cells)

  abbrev sure : ℕ
  sure = sure_items (length out) (length cells)

  part-told : {p : Played} {r : Part} {n : ℕ} {out' cells' : List ℕ} → Hears part p out out' → n ≡ losses_in part.items
      → cells' ≡ cond h.records (at_start (map cell_of part.items) cells) cells → Answers p n (length octets) r
      → NextPart octets h at out out' cells cells' r
  part-told t l c a =
      record {
        end = a.end ∙ t.end;
        at = a.at ∙ t.place;
        bit = a.bit ∙ t.bit;
        items = a.items ∙ t.items;
        losses = a.losses ∙ l;
        samples = a.samples ∙ t.samples;
        more = a.more ∙ rw (t.end, t.place);
        lent = t.lent;
        told = c;
      }

  -- of a recording
  module _ (k : h.records ≡ true) where
    items-part : part ≡ items_from sure octets h.law h.set at (length out) (length cells)
    unfolding heard_as
    items-part = rw k

    module _ {p : Played} {out' cells' : List ℕ}
        (t : Plays (items_from sure octets h.law h.set at (length out) (length cells)) p out out' cells cells') where
      pub items-fit : p.items ≤ length cells
      items-fit = omega (arith, t.items, (items-told octets h.law h.set sure at (length out) (length cells)).few)

      pub items-told-as : {r : Part} {n : ℕ} → n ≡ loss_cells (take p.items cells') → Answers p n (length octets) r
          → NextPart octets h at out out' cells cells' r
      items-told-as l a =
          let losses = l ∙ ap loss_cells (cells_told t)
          ∙ reads-losses octets h.law h.set (reads octets h.law h.set sure at (length out) (length cells)) in
          let hears : Hears (items_from sure octets h.law h.set at (length out) (length cells)) p out out' =
          record { end = t.end; items = t.items; place = t.place; samples = t.samples; bit = t.bit; lent = t.lent } in
          part-told (rw items-part hears) (rw items-part losses) (rw (items-part, k) t.told) a

  -- of a stream
  pub frames-told : h.records ≡ false → {p : Played} {r : Part} {out' : List ℕ}
      → Hears (streamed (walk_from sure octets h.law h.set at (length out))) p out out'
      → Answers p 0 (length octets) r → NextPart octets h at out out' cells cells r
  unfolding heard_as
  frames-told k t a =
      let w = walk_from sure octets h.law h.set at (length out) in
      part-told (rw k t) (rw k (sym (frames-none w.frames))) (rw k refl) a

  pub goes_of : {r : Part} {out' cells' : List ℕ} → NextPart octets h at out out' cells cells' r → Goes octets at out cells r
  goes_of {r} t =
      let d = heard-told octets h.law h.set h.records sure at (length out) (length cells) in
      let on : r.more ≡ true → (part.end ≡ Ok tt) × (part.place < length octets)
      = λ m. more-inside part.end part.place (length octets) (sym t.more ∙ m) in
      let whole : r.more ≡ true → (length part.items < sure → ⊥) = λ m k. absurd (omega (arith, (on m).1, d.all (on m).0 k)) in
      record {
        fits = omega (arith, t.samples, d.fits);
        places = omega (arith, t.items, d.few);
        held = omega (arith, t.samples, t.items, d.held);
        some = omega (arith, t.losses, t.items, losses-few part.items);
        few = λ h. omega (arith, t.items, d.some, d.inside h);
        ends = λ h. omega (arith, t.at, d.inside h);
        nearer = λ h k m. let w = whole m in omega (arith, t.at, d.some, w);
        inside = λ m. omega (arith, t.at, (on m).1);
      }
