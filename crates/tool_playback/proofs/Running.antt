-- Part after part: each keeps within the octets, and together they are their items; and an item that is told is one of theirs.
use Prim.Native.Nat.{ℕ, ◌+◌, ◌*◌, ◌-◌, ◌≤◌}
use native.Mathlib.Omega.{arith}
use mathlib.Core.Path.{◌≡◌, refl, sym, ap, ◌∙◌}
use mathlib.Core.Bool.{Bool, true, false, cond}
use mathlib.Core.List.{List, [], ◌∷◌, ◌++◌, map}
use lib.ListN.{length, get_or, length-append}
use Rattle.rules.specs.Calls.{at_start}
use Rattle.rules.specs.Walk.{longest, walk_from}
use Rattle.recording.specs.Items.{Item, sound, lost, sound_in, cell_of}
use Rattle.recording_read.proofs.Steps.{sound_in-append}
use Rattle.std.specs.Prelude.{Result}
use Rattle.tool_sound.specs.declared.sounds.Trouble.{Trouble}
use Rattle.tool_playback.specs.declared.parts.Reading.{Reading}
use Rattle.tool_playback.specs.declared.parts.Point.{Point}
use Rattle.tool_playback.specs.declared.parts.Part.{Part}
use Rattle.tool_playback.specs.Heard.{heard_as}
use Rattle.tool_playback.specs.Parts.{sure_items, part_of, losses_in, NextPart}
use Rattle.tool_playback.specs.Runs.{Before, none, one_more, NextSound, TellsFile}
use Rattle.tool_playback.specs.Lines.{Follows, NextItem, LossAt, Small, Sums}
use Rattle.tool_playback.proofs.Heard.{heard-told, frames-none}
use Rattle.tool_playback.proofs.Parted.{more-inside, losses-few}
use Rattle.tool_playback.proofs.Whole.{whole_parts}

pub losses-append : (a b : List Item) → losses_in (a ++ b) ≡ losses_in a + losses_in b
unfolding losses_in
losses-append [] b = omega arith
losses-append (i ∷ a) b = omega (arith, losses-append a b)

module _ (body : List ℕ) (h : Reading) where
  -- the parts before a place
  pub record Kept (done : List Item) (at : ℕ) : Type 0 where
    pub few : length done ≤ at
    pub held : length (sound_in done) ≤ 320 * length done
    pub inside : at ≤ length body

  pub before-kept : {done : List Item} {at : ℕ} → Before body h done at → Kept done at
  unfolding sound_in
  before-kept none = record { few = omega arith; held = omega arith; inside = omega arith }
  before-kept (one_more {done = done} {at = at} b room places m) =
      let k = before-kept b in
      let d = heard-told body h.law h.set h.records (sure_items room places) at room places in
      let w = part_of body h at room places in
      let l = length-append done w.items in
      record {
        few = omega (arith, l, k.few, d.some);
        held = omega (
          arith,
          l,
          k.held,
          d.held,
          ap length (sound_in-append done w.items),
          length-append (sound_in done) (sound_in w.items),
        );
        inside = omega (arith, (more-inside w.end w.place (length body) m).1);
      }

  module _ {here : Point} (f : Follows body h here) where
    pub number-most : here.items ≤ here.at
    number-most = omega (arith, f.count, (before-kept f.before).few)

    pub heard-most : here.samples ≤ 320 * here.items
    heard-most = omega (arith, f.count, f.sound, (before-kept f.before).held)

    pub at_most : here.at ≤ length body
    at_most = (before-kept f.before).inside

    -- with what stands before the octets
    pub sums : {b : Point} → length body ≤ longest → Small b → Sums b here
    sums l s = (
      omega (arith, at_most, s.0),
      omega (arith, at_most, number-most, s.1),
      omega (arith, at_most, number-most, heard-most, s.2),
    )

    -- one part more
    module _ {out out' cells cells' : List ℕ} {p : Part} (n : NextPart body h here.at out out' cells cells' p) where
      abbrev next : List Item
      next = (part_of body h here.at (length out) (length cells)).items

      abbrev pub follows_on : p.more ≡ true
          → Follows body h (record { at = p.at; items = here.items + p.items; samples = here.samples + p.samples })
      follows_on m =
          record {
            done = f.done ++ next;
            before = rw n.at (one_more f.before (length out) (length cells) (sym n.more ∙ m));
            count = omega (arith, f.count, n.items, length-append f.done next);
            sound = omega (
              arith,
              f.sound,
              n.samples,
              ap length (sound_in-append f.done next),
              length-append (sound_in f.done) (sound_in next),
            );
          }

      pub next-sound : NextSound body h here.at out' p
      next-sound = record { done = f.done; before = f.before; lent = out; cells = cells; cells' = cells'; is = n }

      -- the last part: the totals are those of all items
      pub goes-whole : p.more ≡ false → {lost good : ℕ} {wrong : Result (Unit {0}) Trouble} → lost ≡ losses_in f.done → good ≡ p.samples
          → TellsFile body h
          (record {
            end = p.end;
            at = p.at;
            bit = p.bit;
            items = here.items + p.items;
            lost = lost + p.lost;
            samples = here.samples + good;
            wrong = wrong;
          })
      goes-whole m e u =
          let w = whole_parts body h f.before (length out) (length cells) (sym n.more ∙ m) in
          record {
            end = n.end ∙ sym (ap (λ r. r.end) w);
            at = n.at ∙ sym (ap (λ r. r.place) w);
            bit = n.bit ∙ sym (ap (λ r. r.bit) w);
            items = omega (arith, f.count, n.items, length-append f.done next) ∙ sym (ap (λ r. length r.items) w);
            losses = omega (arith, e, n.losses, losses-append f.done next) ∙ sym (ap (λ r. losses_in r.items) w);
            samples =
                omega (
                  arith,
                  u,
                  f.sound,
                  n.samples,
                  ap length (sound_in-append f.done next),
                  length-append (sound_in f.done) (sound_in next),
                ) ∙ sym (ap (λ r. length (sound_in r.items)) w);
          }

-- an item that is told: where it is a loss, it is the recording's item there
one-loss : (is : List Item) (cells lent : List ℕ) → length is ≤ 1 → (losses_in is ≡ 0 → ⊥) → cells ≡ at_start (map cell_of is) lent
    → (32768 ≤ get_or cells 0 0) × (is ≡ lost (get_or cells 0 0 - 32768) ∷ [])
unfolding losses_in
one-loss [] cells lent h l e = absurd (l refl)
one-loss (sound f ∷ []) cells lent h l e = absurd (l refl)
one-loss (lost n ∷ []) cells lent h l e = let d : 32768 + n - 32768 ≡ n = omega arith in rw (e, d) (omega arith, refl)
one-loss (i ∷ k ∷ is) cells lent h l e = absurd (omega arith)

-- a stream has none
stream-lossless : (octets : List ℕ) (n law set at room places : ℕ) → losses_in (heard_as false n octets law set at room places).items ≡ 0
unfolding heard_as
stream-lossless octets n law set at room places = frames-none (walk_from n octets law set at room).frames

pub item-lost : (body : List ℕ) (h : Reading) {here : Point} {cell : ℕ} {p : Part} → NextItem body h here cell p
    → (p.lost ≡ 0 → ⊥) → (32768 ≤ cell) × LossAt body h here (cell - 32768)
item-lost body h {here} {p = p} n l =
    let w = part_of body h here.at (length n.page) (length n.lent) in
    let d = heard-told body h.law h.set h.records (sure_items (length n.page) (length n.lent)) here.at (length n.page)
    (length n.lent) in
    let few : length w.items ≤ 1 = omega (arith, d.few, n.place) in
    let o = one-loss w.items n.cells n.lent few (λ z. l (n.is.losses ∙ z)) (recorded _ _ _ h.records n.is.told
    (λ e. l (n.is.losses ∙ ap (λ (b : Bool). losses_in (heard_as b (sure_items (length n.page) (length n.lent)) body h.law h.set
    here.at (length n.page) (length n.lent)).items) e ∙ stream-lossless body _ _ _ _ _ _))) in
    rw n.told (o.0, record { follows = n.follows; is = rw (n.room, n.place) at o.1 })
  where
    recorded : (a b cells : List ℕ) (r : Bool) → cells ≡ cond r a b → (r ≡ false → ⊥) → cells ≡ a
    recorded a b cells true e k = e
    recorded a b cells false e k = absurd (k refl)

-- the parts so far, with their losses
module _ (body : List ℕ) (h : Reading) where
  pub record Going (size places : ℕ) (page cells : List ℕ) (here : Point) (lost : ℕ) : Type 0 where
    pub follows : Follows body h here
    pub losses : lost ≡ losses_in follows.done
    pub page-size : length page ≡ size
    pub cells-size : length cells ≡ places

  pub going-first : (page cells : List ℕ) → Going (length page) (length cells) page cells (record { at = 0; items = 0; samples = 0 }) 0
  unfolding losses_in sound_in
  going-first page cells =
      record {
        follows = record { done = []; before = none; count = refl; sound = refl };
        losses = refl;
        page-size = refl;
        cells-size = refl;
      }

  pub lost-most : {size places : ℕ} {page cells : List ℕ} {here : Point} {lost : ℕ} → Going size places page cells here lost
      → lost ≤ here.items
  lost-most w = omega (arith, w.losses, w.follows.count, losses-few w.follows.done)

  pub going_on : {size places : ℕ} {page page' cells cells' : List ℕ} {here : Point} {lost : ℕ} (w : Going size places page cells here lost)
      → {p : Part} (n : NextPart body h here.at page page' cells cells' p) → length page' ≡ length page → length cells' ≡ length cells
      → {good : ℕ} → good ≡ p.samples → p.more ≡ true
      → Going size places page' cells' (record { at = p.at; items = here.items + p.items; samples = here.samples + good }) (lost + p.lost)
  going_on w n l k u m =
      rw u
      (record {
        follows = follows_on body h w.follows n m;
        losses = omega (arith, w.losses, n.losses, losses-append w.follows.done (next body h w.follows n));
        page-size = l ∙ w.page-size;
        cells-size = k ∙ w.cells-size;
      })
