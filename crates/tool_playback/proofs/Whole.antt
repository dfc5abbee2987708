-- The parts, one after another until there is no more, are the whole stream or recording and nothing else.
use Prim.Native.Nat.{ℕ, suc, ◌+◌, ◌*◌, ◌-◌}
use mathlib.Core.Path.{◌≡◌, refl, sym, ap, ◌∙◌}
use mathlib.Core.List.{List, ◌++◌, append_assoc, append-nil}
use mathlib.Core.Bool.{true, false}
use native.Mathlib.Omega.{arith}
use lib.ListN.{length}
use borrow.Author.Tests.{ltb-false}
use Rattle.recording.specs.Endings.{Ending}
use Rattle.std.proofs.Common.{Ok, Err}
use Rattle.recording.specs.Items.{Item, Recorded, sound_in}
use Rattle.recording_read.proofs.Steps.{after}
use Rattle.recording_read.proofs.Parts.{by_end}
use Rattle.tool_playback.specs.declared.parts.Reading.{Reading}
use Rattle.tool_playback.specs.Heard.{heard_from}
use Rattle.tool_playback.specs.Parts.{sure_items, part_of, goes_on}
use Rattle.tool_playback.proofs.Heard.{on_from, heard-told, heard-ended, heard-parts, heard-fuel, heard-roomy}
use Rattle.tool_playback.proofs.Parted.{more-inside}
use Rattle.tool_playback.specs.Runs.{Before, none, one_more, heard}

after-after : (a b : List Item) (r : Recorded) → after a (after b r) ≡ after (a ++ b) r
after-after a b r = ap (λ (l : List Item). record { items = l; end = r.end; place = r.place; bit = r.bit })
    (sym (append_assoc a b r.items))

module _ (body : List ℕ) (h : Reading) where
  abbrev law : ℕ
  law = h.law

  abbrev set : ℕ
  set = h.set

  -- all from a place on
  abbrev pub rest_of : ℕ → Recorded
  rest_of at = heard_from h (suc (length body)) body at (320 * length body) (length body)

  module _ (at room places : ℕ) where
    abbrev part : Recorded
    part = part_of body h at room places

    by_parts : rest_of at ≡ by_end part.end (after part.items (rest_of part.place)) part
    by_parts =
        let d = heard-told body law set h.records (sure_items room places) at room places in
        heard-fuel body law set h.records (suc (length body)) (sure_items room places + suc (length body)) at (320 * length body)
        (length body) (omega arith) (omega arith)
        ∙ heard-parts body law set h.records (sure_items room places) (suc (length body)) at (320 * length body) (length body)
        ∙ ap (λ (r : Recorded). by_end r.end (on_from body law set h.records (suc (length body)) (320 * length body) (length body) r) r)
        (heard-roomy body law set h.records (sure_items room places) at (320 * length body) (length body) room places (omega arith, omega arith)
        (omega arith, omega arith)) ∙ ap (λ (r : Recorded). by_end part.end (after part.items r) part)
        (heard-roomy body law set h.records (suc (length body)) part.place (320 * length body - length (sound_in part.items))
        (length body - length part.items)
        (320 * length body) (length body) (omega (arith, d.some, d.held), omega (arith, d.some)) (omega arith, omega arith))

    -- more comes: the reading goes on where the part ended
    pub part_then : goes_on part.end part.place (length body) ≡ true → rest_of at ≡ after part.items (rest_of part.place)
    part_then e =
        by_parts ∙ ap (λ (end : Ending). by_end end (after part.items (rest_of part.place)) part)
        (more-inside part.end part.place (length body) e).0

    -- no more comes: the part is all the rest
    pub last-part : goes_on part.end part.place (length body) ≡ false → rest_of at ≡ part
    last-part e = by_parts ∙ go part e (heard-told body law set h.records (sure_items room places) at room places).clean
      where
        ended : (r : Recorded) (end : Ending) → r.end ≡ end → goes_on end r.place (length body) ≡ false → (r.end ≡ Ok tt → r.bit ≡ 0)
            → by_end end (after r.items (rest_of r.place)) r ≡ r
        ended r (Ok tt) q e clean =
            ap (after r.items)
            (heard-ended body law set h.records (suc (length body)) r.place (320 * length body) (length body)
            (ltb-false r.place (length body) e)) ∙ rw (append-nil, ← q, ← (clean q))
        ended r (Err w) q e clean = refl

        go : (r : Recorded) → goes_on r.end r.place (length body) ≡ false → (r.end ≡ Ok tt → r.bit ≡ 0)
            → by_end r.end (after r.items (rest_of r.place)) r ≡ r
        go r e clean = ended r r.end refl e clean

  -- the parts before, and then the rest
  pub all-parts : {done : List Item} {at : ℕ} → Before body h done at → rest_of 0 ≡ after done (rest_of at)
  all-parts none = refl
  all-parts (one_more {done = done} {at = at} b room places m) =
      all-parts b ∙ ap (after done) (part_then at room places m)
      ∙ after-after done (part_of body h at room places).items (rest_of (part_of body h at room places).place)

  -- so with the last part they are the whole
  pub whole_parts : {done : List Item} {at : ℕ} → Before body h done at → (room places : ℕ)
      → goes_on (part_of body h at room places).end (part_of body h at room places).place (length body) ≡ false
      → heard body h ≡ after done (part_of body h at room places)
  whole_parts {done} {at} b room places m = all-parts b ∙ ap (after done) (last-part at room places m)
