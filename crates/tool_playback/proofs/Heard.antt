-- The laws that both readings have (specs/Heard), for a caller that reads by parts: a reading is its parts one after another (`heard-parts`);
-- what is true of every one (`heard-told`); items allowed above the octets left do not matter (`heard-fuel`); 320 samples and a place for each
-- item are always enough (`heard-roomy`). A stream is its walk (`frames-sound`, `frames-none`, `heard-walk`).
use Prim.Native.Nat.{ℕ, suc, ◌+◌, ◌*◌, ◌-◌, ◌≤◌, ◌<◌}
use native.Mathlib.Omega.{arith}
use mathlib.Core.Path.{◌≡◌, refl, sym, ap, ◌∙◌}
use mathlib.Core.List.{List, [], ◌∷◌, ◌++◌, map-append}
use mathlib.Core.Bool.{Bool, true, false}
use lib.ListN.{length, length-map}
use Rattle.rules.specs.Refusals as rules
use Rattle.std.proofs.Common.{Ok, Err}
use Rattle.rules.specs.Walk.{Delivered, Walked, walk_from, walk_all, samples_kept}
use Rattle.rules.specs.declared.WalkAnswer.{WalkAnswer}
use Rattle.rules.specs.Calls.{Walks}
use Rattle.rules.proofs.Walk as walk
use Rattle.promises.proofs.Walks.{Walkable, walk-all}
use Rattle.recording.specs.Endings.{Ending}
use Rattle.recording.specs.Items.{Item, sound, Recorded, stopped, sound_in}
use Rattle.recording_read.proofs.Steps.{after, items-ended}
use Rattle.recording_read.proofs.Parts.{by_end, Roomy, items-told, items-parts, items-fuel, items-roomy}
use Rattle.tool_playback.specs.Heard.{end_of, frames_as, streamed, heard_as, Hears}
use Rattle.tool_playback.specs.Parts.{losses_in}

-- the items of a stream: its frames' samples, and no loss
pub frames-sound : (fs : List Delivered) → sound_in (frames_as fs) ≡ samples_kept fs
unfolding sound_in samples_kept
frames-sound [] = refl
frames-sound (f ∷ fs) = ap (λ (s : List ℕ). f.found.samples ++ s) (frames-sound fs)

pub frames-none : (fs : List Delivered) → losses_in (frames_as fs) ≡ 0
unfolding losses_in
frames-none [] = refl
frames-none (f ∷ fs) = omega (arith, frames-none fs)

pub frames-count : (fs : List Delivered) → length (frames_as fs) ≡ length fs
frames-count fs = length-map fs (λ (d : Delivered). sound d.found)

-- a walk's answer as what is heard
pub frames-heard : {w : Walked} {a : WalkAnswer} {out out' : List ℕ} {end : Ending} → Walks w a out out' → end ≡ end_of a.end
    → Hears (streamed w) (record { end = end; items = a.frames; place = a.place; samples = a.samples; bit = a.bit }) out out'
frames-heard {w} t e =
    record {
      end = e ∙ ap end_of t.end;
      items = t.frames ∙ sym (frames-count w.frames);
      place = t.place;
      samples = t.samples ∙ sym (ap length (frames-sound w.frames));
      bit = t.bit;
      lent = rw (frames-sound w.frames) t.lent;
    }

ends-clean : (e : rules.Ending) → end_of e ≡ Ok tt → e ≡ Ok tt
ends-clean (Ok _) q = refl
ends-clean (Err why) q = let z : ◌≡◌ {A = ℕ} 0 1 = cc in absurd (omega arith)

module _ (octets : List ℕ) (law set : ℕ) where
  -- what is true of every reading
  pub record Told (n at room : ℕ) (r : Recorded) : Type 0 where
    pub fits : length (sound_in r.items) ≤ room
    pub held : length (sound_in r.items) ≤ 320 * length r.items
    pub few : length r.items ≤ n
    pub some : at + length r.items ≤ r.place
    pub inside : at ≤ length octets → r.place ≤ length octets
    -- it ended clean: all items that are allowed are there, or it is at the end
    pub all : r.end ≡ Ok tt → length r.items < n → length octets ≤ r.place
    pub clean : r.end ≡ Ok tt → r.bit ≡ 0

  walk-heard : (n at room : ℕ) → Told n at room (streamed (walk_from n octets law set at room))
  walk-heard n at room =
      let w = walk_from n octets law set at room in
      let t = walk.walk-told octets law set n at room in
      let c = frames-count w.frames in
      let s = ap length (frames-sound w.frames) in
      record {
        fits = omega (arith, s, t.fits);
        held = omega (arith, s, c, t.held);
        few = omega (arith, c, t.few);
        some = omega (arith, c, t.some, t.place);
        inside = λ h. omega (arith, t.place, t.inside);
        all = λ e k. t.whole (ends-clean w.end e) (omega (arith, c, k));
        clean = λ e. t.clean (ends-clean w.end e);
      }

  pub heard-told : (b : Bool) (n at room places : ℕ) → Told n at room (heard_as b n octets law set at room places)
  unfolding heard_as
  heard-told true n at room places =
      let t = items-told octets law set n at room places in
      record { fits = t.fits; held = t.held; few = t.few; some = t.some; inside = t.inside; all = t.all; clean = t.clean }
  heard-told false n at room places = walk-heard n at room

  pub heard-ended : (b : Bool) (n at room places : ℕ) → length octets ≤ at → heard_as b n octets law set at room places ≡ stopped (Ok tt) at 0
  unfolding heard_as
  heard-ended true n at room places h = items-ended octets law set n at room places h
  heard-ended false n at room places h = ap streamed (walk.walk-ended octets law set n at room h)

  -- the reading taken up again where it ended
  abbrev pub on_from : Bool → ℕ → ℕ → ℕ → Recorded → Recorded
  on_from b n room places r =
      after r.items (heard_as b n octets law set r.place (room - length (sound_in r.items)) (places - length r.items))

  walk-onward : (w : Walked) (n room places : ℕ) (e : rules.Ending)
      → streamed (walk.by_end e (walk.on_from octets law set n room w) w) ≡ by_end (end_of e) (on_from false n room places (streamed w)) (streamed w)
  unfolding heard_as
  walk-onward w n room places (Ok tt) =
      let v = walk_from n octets law set w.place (room - length (samples_kept w.frames)) in
      rw (frames-sound w.frames)
      (ap (λ (l : List Item). record { items = l; end = end_of v.end; place = v.place; bit = v.bit })
      (map-append (λ (d : Delivered). sound d.found) w.frames v.frames))
  walk-onward w n room places (Err why) = refl

  -- a reading of m + n items is one of m items and, where that ended clean, one of n items from its place on, with the room and places left
  pub heard-parts : (b : Bool) (m n at room places : ℕ) → heard_as b (m + n) octets law set at room places
      ≡ by_end (heard_as b m octets law set at room places).end (on_from b n room places (heard_as b m octets law set at room places))
      (heard_as b m octets law set at room places)
  unfolding heard_as
  heard-parts true m n at room places = items-parts octets law set m n at room places
  heard-parts false m n at room places =
      let w = walk_from m octets law set at room in
      ap streamed (walk.walk-parts octets law set m n at room) ∙ walk-onward w n room places w.end

  pub heard-fuel : (b : Bool) (m n at room places : ℕ) → length octets ≤ at + m → length octets ≤ at + n
      → heard_as b m octets law set at room places ≡ heard_as b n octets law set at room places
  unfolding heard_as
  heard-fuel true m n at room places h k = items-fuel octets law set m n at room places h k
  heard-fuel false m n at room places h k = ap streamed (walk.walk-fuel octets law set m n at room h k)

  pub heard-roomy : (b : Bool) (n at room places more others : ℕ) → Roomy octets law set n at room places
      → Roomy octets law set n at more others
      → heard_as b n octets law set at room places ≡ heard_as b n octets law set at more others
  unfolding heard_as
  heard-roomy true n at room places more others h k = items-roomy octets law set n at room places more others h k
  heard-roomy false n at room places more others h k = ap streamed (walk.walk-roomy octets law set n at room more h.0 k.0)

  -- where LAW, SET and LONG refuse nothing, a stream is what document 01 walks, with room that is never short
  pub heard-walk : Walkable octets law set → heard_as false (suc (length octets)) octets law set 0 (320 * length octets) (length octets)
      ≡ streamed (walk_all octets law set (320 * length octets))
  unfolding heard_as
  heard-walk h = ap streamed (sym (walk-all octets law set (320 * length octets) h))
