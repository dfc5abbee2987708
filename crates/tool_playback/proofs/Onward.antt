-- A file window by window: the octets so far, cut where an item ends, and then those of the next window (`along-first`, `along-turn`,
-- `along-whole`). They rest on octets one after another, of which the items of the second follow those of the first as by themselves
-- (`heard-joined`).
use Prim.Native.Nat.{ℕ, suc, ◌+◌, ◌*◌, ◌≤◌}
use native.Mathlib.Omega.{arith}
use mathlib.Core.Path.{◌≡◌, refl, sym, ap, ◌∙◌}
use mathlib.Core.Bool.{Bool, true, false}
use mathlib.Core.List.{List, [], ◌++◌, append-nil}
use lib.ListN.{length, take, length-append}
use lib.Seq.{take-length, length-take-le}
use Rattle.rules.specs.Tools.{is_law, is_set}
use Rattle.rules.specs.Walk.{Delivered, longest, samples_kept}
use Rattle.promises.proofs.Walks.{Walkable}
use Rattle.promises.proofs.Joined.{walk_of, joined, cut-clean, walk-place}
use Rattle.std.proofs.Common.{Ok}
use Rattle.recording.specs.Items.{Item, Recorded, stopped, sound_in}
use Rattle.recording_read.proofs.Steps.{sound_in-append}
use Rattle.tool_playback.specs.declared.parts.Reading.{Reading}
use Rattle.tool_playback.specs.declared.playing.Total.{Total}
use Rattle.tool_playback.specs.Heard.{end_of, heard_as}
use Rattle.tool_playback.specs.Parts.{losses_in}
use Rattle.tool_playback.specs.Runs.{heard, Lawful, TellsFile, TellsOne, Within, no_total, Fit, behind_of, UnreadAfter}
use Rattle.tool_playback.specs.Lines.{Behind}
use Rattle.tool_playback.proofs.Heard.{frames-sound, frames-none, frames-count, heard-told, heard-ended, heard-walk}
use Rattle.tool_playback.proofs.Parted.{losses-few}
use Rattle.tool_playback.proofs.Running.{losses-append}
use Rattle.tool_playback.proofs.Joined.{items-joined}

-- what is heard of the second octets, after what was heard of the first
record After (w z r : Recorded) : Type 0 where
  end : r.end ≡ z.end
  place : r.place ≡ w.place + z.place
  bit : r.bit ≡ z.bit
  count : length r.items ≡ length w.items + length z.items
  losses : losses_in r.items ≡ losses_in w.items + losses_in z.items
  sound : length (sound_in r.items) ≡ length (sound_in w.items) + length (sound_in z.items)

module _ (law set : ℕ) where
  abbrev all : Bool → List ℕ → Recorded
  all b w = heard_as b (suc (length w)) w law set 0 (320 * length w) (length w)

  items-after : (w z : List ℕ) → After (all true w) (all true z) (all true (take (all true w).place w ++ z))
  unfolding heard_as
  items-after w z =
      let j = items-joined w law set z in
      let old = (all true w).items in
      let new = (all true z).items in
      record {
        end = j.end;
        place = j.place;
        bit = j.bit;
        count = ap length j.items ∙ length-append old new;
        losses = ap losses_in j.items ∙ losses-append old new;
        sound = ap (λ (l : List Item). length (sound_in l)) j.items ∙ ap length (sound_in-append old new)
            ∙ length-append (sound_in old) (sound_in new);
      }

  frames-after : (w z : List ℕ) → Walkable w law set → Walkable z law set → Walkable (take (walk_of w law set).place w ++ z) law set
      → After (all false w) (all false z) (all false (take (all false w).place w ++ z))
  frames-after w z ok ok' okx =
      let x = take (walk_of w law set).place w in
      let c = cut-clean w law set ok in
      let j = joined x z law set okx c.clean in
      let first = (walk_of w law set).frames in
      let second = (walk_of z law set).frames in
      let both = (walk_of (x ++ z) law set).frames in
      rw (heard-walk w law set ok, heard-walk z law set ok', heard-walk (x ++ z) law set okx)
      (record {
        end = ap end_of j.end;
        place = omega (arith, j.place, c.size);
        bit = j.bit;
        count = omega (arith, j.frames, ap length c.frames, frames-count first, frames-count second, frames-count both);
        losses = omega (arith, frames-none first, frames-none second, frames-none both);
        sound = omega (
          arith,
          ap length (frames-sound first),
          ap length (frames-sound second),
          ap length (frames-sound both),
          ap length j.samples,
          ap (λ (l : List Delivered). length (samples_kept l)) c.frames,
          length-append (samples_kept (walk_of x law set).frames) (samples_kept second),
        );
      })

  -- a whole reading keeps inside
  all_told : (b : Bool) (w : List ℕ) → ((all b w).place ≤ length w) × (length (all b w).items ≤ (all b w).place)
      × (length (sound_in (all b w).items) ≤ 320 * length (all b w).items) × ((all b w).end ≡ Ok tt → (all b w).place ≡ length w)
  all_told b w =
      let t = heard-told w law set b (suc (length w)) 0 (320 * length w) (length w) in
      let inside = t.inside (omega arith) in
      (inside, omega (arith, t.some), t.held, λ e. omega (arith, inside, t.all e (omega (arith, t.some, inside))))

  heard-after : (b : Bool) (w z : List ℕ) → is_law law ≡ true → is_set set ≡ true → length w + length z ≤ longest
      → After (all b w) (all b z) (all b (take (all b w).place w ++ z))
  heard-after true w z l s h = items-after w z
  heard-after false w z l s h =
      let ok : (y : List ℕ) → length y ≤ longest → Walkable y law set = λ y k. record { lawful = l; small = s; short = k } in
      let okw = ok w (omega arith) in
      let p = (walk_of w law set).place in
      let long = length-take-le p w (walk-place w law set okw) in
      frames-after w z okw (ok z (omega arith))
      (ok (take p w ++ z) (omega (arith, length-append (take p w) z, long, walk-place w law set okw)))

-- what came of octets that end where an item does
pub record Along (h : Reading) (a : Total) : Type 0 where
  pub done : List ℕ
  pub long : length done ≡ a.at
  pub clean : (heard done h).end ≡ Ok tt
  pub count : a.items ≡ length (heard done h).items
  pub losses : a.lost ≡ losses_in (heard done h).items
  pub sound : a.samples ≡ length (sound_in (heard done h).items)

module _ (h : Reading) (lawful : Lawful h) where
  heard-told-all : (w : List ℕ) → ((heard w h).place ≤ length w) × (length (heard w h).items ≤ (heard w h).place)
      × (length (sound_in (heard w h).items) ≤ 320 * length (heard w h).items) × ((heard w h).end ≡ Ok tt → (heard w h).place ≡ length w)
  heard-told-all w = all_told h.law h.set h.records w

  -- octets up to where their items ended, and then any others
  heard-joined : (w z : List ℕ) → length w + length z ≤ longest
      → After (heard w h) (heard z h) (heard (take (heard w h).place w ++ z) h)
  heard-joined w z k = heard-after h.law h.set h.records w z lawful.0 lawful.1 k

  none-heard : heard [] h ≡ stopped (Ok tt) 0 0
  none-heard = heard-ended [] h.law h.set h.records 1 0 0 0 (omega arith)

  -- octets cut where their items ended
  record Cut (w x : List ℕ) : Type 0 where
    size : length x ≡ (heard w h).place
    clean : (heard x h).end ≡ Ok tt
    count : length (heard x h).items ≡ length (heard w h).items
    losses : losses_in (heard x h).items ≡ losses_in (heard w h).items
    sound : length (sound_in (heard x h).items) ≡ length (sound_in (heard w h).items)

  cut : (w : List ℕ) → length w ≤ longest → Cut w (take (heard w h).place w)
  unfolding losses_in sound_in
  cut w k =
      let x = take (heard w h).place w in
      let j = heard-joined w [] (omega arith) in
      let same : heard (x ++ []) h ≡ heard x h = ap (λ (l : List ℕ). heard l h) (append-nil x) in
      let n = none-heard in
      record {
        size = length-take-le (heard w h).place w (heard-told-all w).0;
        clean = sym (ap (λ (r : Recorded). r.end) same) ∙ j.end ∙ ap (λ (r : Recorded). r.end) n;
        count = omega (arith, j.count, ap (λ (r : Recorded). length r.items) same, ap (λ (r : Recorded). length r.items) n);
        losses = omega (arith, j.losses, ap (λ (r : Recorded). losses_in r.items) same, ap (λ (r : Recorded). losses_in r.items) n);
        sound = omega (
          arith,
          j.sound,
          ap (λ (r : Recorded). length (sound_in r.items)) same,
          ap (λ (r : Recorded). length (sound_in r.items)) n,
        );
      }

  pub along-first : Along h no_total
  unfolding losses_in sound_in
  along-first =
      let n = none-heard in
      record {
        done = [];
        long = refl;
        clean = ap (λ (r : Recorded). r.end) n;
        count = sym (ap (λ (r : Recorded). length r.items) n);
        losses = sym (ap (λ (r : Recorded). losses_in r.items) n);
        sound = sym (ap (λ (r : Recorded). length (sound_in r.items)) n);
      }

  module _ {a : Total} (o : Along h a) where
    along-most : (a.items ≤ a.at) × (a.samples ≤ 320 * a.items) × (a.lost ≤ a.items)
    along-most =
        let t = heard-told-all o.done in (
          omega (arith, o.count, o.long, t.0, t.1),
          omega (arith, o.count, o.sound, t.2),
          omega (arith, o.count, o.losses, losses-few (heard o.done h).items),
        )

    pub along-behind : a.at ≤ longest → Behind h (record { at = a.at; items = a.items; samples = a.samples })
    along-behind k =
        record {
          done = o.done;
          long = o.long;
          clean = o.clean;
          count = o.count;
          sound = o.sound;
          small = (k, omega (arith, along-most.0), omega (arith, along-most.0, along-most.1));
        }

    -- with what came of so many octets more
    module _ {t : Total} {n size : ℕ} (w : Within n t) (k : a.at + n ≤ size) where
      pub along-within : Within size (behind_of a t)
      along-within =
          let m = along-most in
          record {
            some = omega (arith, m.2, w.some);
            ends = omega (arith, w.ends);
            few = omega (arith, m.0, w.few);
            held = omega (arith, m.1, w.held);
          }

      pub along-fit : size ≤ longest → Fit a t
      along-fit l =
          let v = along-within in (
            omega (arith, v.ends),
            omega (arith, v.few),
            omega (arith, v.few, v.some),
            omega (arith, v.few, v.held),
          )

    -- a file that can't be read from there on
    pub along-unread : {t : Total} {size : ℕ} → UnreadAfter a t → a.at ≤ size → Within size t
    along-unread u k =
        let m = along-most in
        record {
          some = omega (arith, m.2, u.count, u.losses);
          ends = omega (arith, u.place);
          few = omega (arith, m.0, u.count);
          held = omega (arith, m.1, u.count, u.sound);
        }

    join : (z : List ℕ) {t : Total} → a.at + length z ≤ longest → TellsFile z h t → TellsFile (o.done ++ z) h (behind_of a t)
    join z {t} k f =
        let j = heard-joined o.done z (omega (arith, o.long)) in
        let here = (heard-told-all o.done).3 o.clean in
        let same : heard (take (heard o.done h).place o.done ++ z) h ≡ heard (o.done ++ z) h =
        ap (λ (n : ℕ). heard (take n o.done ++ z) h) here ∙ ap (λ (l : List ℕ). heard (l ++ z) h) (take-length o.done) in
        record {
          end = f.end ∙ sym j.end ∙ ap (λ (r : Recorded). r.end) same;
          at = omega (arith, f.at, here, o.long, j.place, ap (λ (r : Recorded). r.place) same);
          bit = f.bit ∙ sym j.bit ∙ ap (λ (r : Recorded). r.bit) same;
          items = omega (arith, f.items, o.count, j.count, ap (λ (r : Recorded). length r.items) same);
          losses = omega (arith, f.losses, o.losses, j.losses, ap (λ (r : Recorded). losses_in r.items) same);
          samples = omega (arith, f.samples, o.sound, j.sound, ap (λ (r : Recorded). length (sound_in r.items)) same);
        }

    -- with the octets of the last window: one stream or recording
    pub along-whole : (w : List ℕ) {t : Total} → a.at + length w ≤ longest → TellsFile w h t → TellsOne h (behind_of a t)
    along-whole w k f = record { body = o.done ++ w; short = omega (arith, length-append o.done w, o.long); tells = join w k f }

    -- and with those up to where the window's items ended
    pub along-turn : (w : List ℕ) {t : Total} → a.at + length w ≤ longest → TellsFile w h t → Along h (behind_of a t)
    along-turn w {t} k f =
        let x = take (heard w h).place w in
        let c = cut w (omega arith) in
        let here = (heard-told-all x).3 c.clean in
        let g : TellsFile x h
        (record {
          end = Ok tt;
          at = t.at;
          bit = (heard x h).bit;
          items = t.items;
          lost = t.lost;
          samples = t.samples;
          wrong = t.wrong;
        }) =
        record {
          end = sym c.clean;
          at = f.at ∙ sym c.size ∙ sym here;
          bit = refl;
          items = f.items ∙ sym c.count;
          losses = f.losses ∙ sym c.losses;
          samples = f.samples ∙ sym c.sound;
        } in
        let j = join x (omega (arith, c.size, (heard-told-all w).0)) g in
        record {
          done = o.done ++ x;
          long = omega (arith, length-append o.done x, o.long, c.size, f.at);
          clean = sym j.end;
          count = j.items;
          losses = j.losses;
          sound = j.samples;
        }
