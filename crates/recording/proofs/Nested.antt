-- Demand 3 of files: of two readers, one's tools within the other's, the smaller delivers the same items and ends alike, unless it meets a
-- frame whose tool it lacks: there it stops and names place and tool, and the larger has every item before that place the same
-- (`items-nest`; of whole files `files-nest`).
use Prim.Native.Nat.{ℕ, zero, suc, ◌+◌, ◌-◌, ◌≤◌, ◌<◌}
use native.Mathlib.Omega.{arith}
use mathlib.Core.Path.{◌≡◌, refl, sym, ap, ◌∙◌}
use mathlib.Core.List.{List, ◌∷◌, ◌++◌}
use mathlib.Core.Bool.{Bool, true, false, cond, not}
use lib.ListN.{length, get_or, drop}
use lib.Dec.{eqb, leb}
use borrow.Author.Tests.{leb-false}
use Rattle.rules.specs.declared.Refusal.TheVariants as rules
use Rattle.rules.specs.Tools.{holds, Within, is_set}
use Rattle.rules.specs.Samples.{mask_of}
use Rattle.rules.specs.Reading.{Read, whole, refuse}
use Rattle.rules.specs.Frame.{Found, octets_used, read_one}
use Rattle.rules.specs.Walk.{longest}
use Rattle.promises.proofs.Nesting as nesting
use Rattle.promises.proofs.Walks.{uses}
use Rattle.recording.specs.declared.Refusal.TheVariants.{Head, Frame}
use Rattle.std.proofs.Common.{Ok, Err}
use Rattle.recording.specs.Remembered.{Headed, heading, no_heading, headed, heading_length, lost_octet}
use Rattle.recording.specs.Items.{Item, lost, Recorded, stopped, before, item_of, room_taken}
use Rattle.recording.specs.Items.{items_from, File, nothing, by_heading, read_file}

-- The place of item k, counted from 0: where the reading stands when k items have been read, since the first number of `items_from` is a
-- bound in items
abbrev pub place_from : List ℕ → ℕ → ℕ → ℕ → ℕ → ℕ → ℕ → ℕ
place_from octets law set at room places k = (items_from k octets law set at room places).place

-- the items of v that stand before the place of w are those of w; `place` is v's
pub record Extends (place : ℕ → ℕ) (w v : Recorded) : Type 0 where
  pub rest : List Item
  pub items : v.items ≡ w.items ++ rest
  pub early : (k : ℕ) → k < length w.items → place k < w.place
  pub late : (k : ℕ) → length w.items ≤ k → w.place ≤ place k

-- the reading by the smaller set, beside that by the larger
pub data Nest (small : ℕ) (place : ℕ → ℕ) (w v : Recorded) : Type 0 where
  alike : w ≡ v → Nest small place w v
  ends : (t : ℕ) → w.end ≡ Err (Frame (rules.Tool t)) → holds small t ≡ false → Extends place w v → Nest small place w v

-- What both do at a place: both stop, both take one item, or the smaller lacks the tool
module _ (octets : List ℕ) (law a b at room places : ℕ) where
  abbrev Takes : ℕ → Item → ℕ → ℕ → Type 0
  Takes set i used taken = (fuel : ℕ) → items_from (suc fuel) octets law set at room places
      ≡ before i (items_from fuel octets law set (at + used) (room - taken) (places - 1))

  abbrev Stops : ℕ → Recorded → Type 0
  Stops set r = (fuel : ℕ) → items_from (suc fuel) octets law set at room places ≡ r

  data Both : Type 0 where
    stop : (r : Recorded) → r.place ≡ at → Stops a r → Stops b r → Both
    one : (i : Item) (used taken : ℕ) → 1 ≤ used → Takes a i used taken → Takes b i used taken → Both
    lacks : (t : ℕ) → holds a t ≡ false → Stops a (stopped (Err (Frame (rules.Tool t))) at 0) → Both

  both : is_set a ≡ true → is_set b ≡ true → Within a b → Both
  unfolding items_from
  both s t n = go (leb (length octets) at) refl (eqb places 0) refl (eqb (get_or octets at 0) lost_octet) refl
    where
      frame-read : leb (length octets) at ≡ false → eqb places 0 ≡ false → eqb (get_or octets at 0) lost_octet ≡ false
          → nesting.Nests a (read_one (drop at octets) law a room) (read_one (drop at octets) law b room)
          → (m : Read Found) → read_one (drop at octets) law a room ≡ m → Both
      frame-read x y z (nesting.ends k e h) m q = lacks k h (λ fuel. rw (x, y, z, e) refl)
      frame-read x y z (nesting.alike e) (whole f j) q =
          let u = uses octets law a at room (leb-false (length octets) at x) q in
          let q' = sym e ∙ q in
          one (item_of (mask_of law) f) (octets_used f) (room_taken (mask_of law) f) (omega arith)
          (λ fuel. rw (x, y, z, q) refl) (λ fuel. rw (x, y, z, q') refl)
      frame-read x y z (nesting.alike e) (refuse w bit) q =
          let q' = sym e ∙ q in
          stop (stopped (Err (Frame w)) at bit) refl (λ fuel. rw (x, y, z, q) refl) (λ fuel. rw (x, y, z, q') refl)

      go : (x : Bool) → leb (length octets) at ≡ x → (y : Bool) → eqb places 0 ≡ y → (z : Bool) → eqb (get_or octets at 0) lost_octet ≡ z
          → Both
      go true x y p z q = stop (stopped (Ok tt) at 0) refl (λ fuel. rw x refl) (λ fuel. rw x refl)
      go false x true p z q =
          stop (stopped (Err (Frame rules.Room)) at 0) refl (λ fuel. rw (x, p) refl) (λ fuel. rw (x, p) refl)
      go false x false p true q =
          let r : room - 0 ≡ room = omega arith in
          one (lost 0) 1 0 (omega arith) (λ fuel. rw (r, x, p, q) refl) (λ fuel. rw (r, x, p, q) refl)
      go false x false p false q =
          frame-read x p q (nesting.read-nests (drop at octets) law a b room s t n) (read_one (drop at octets) law a room) refl

-- a reading never goes back
place-first : (octets : List ℕ) (law set at room places : ℕ) → place_from octets law set at room places 0 ≡ at
unfolding items_from
place-first octets law set at room places = refl

no_items : (octets : List ℕ) (law a b at room places : ℕ)
    → items_from zero octets law a at room places ≡ items_from zero octets law b at room places
unfolding items_from
no_items octets law a b at room places = refl

placed : {r s : Recorded} → r ≡ s → r.place ≡ s.place
placed e = ap (λ (r : Recorded). r.place) e

goes_on : (fuel : ℕ) (octets : List ℕ) (law set at room places : ℕ) → is_set set ≡ true → at ≤ place_from octets law set at room places fuel
goes_on zero octets law set at room places s = omega (arith, place-first octets law set at room places)
goes_on (suc fuel) octets law set at room places s =
    go (both octets law set set at room places s s (record { also = λ t h. h }))
    (λ at room places. goes_on fuel octets law set at room places s)
  where
    go : Both octets law set set at room places → ((at room places : ℕ) → at ≤ place_from octets law set at room places fuel)
        → at ≤ place_from octets law set at room places (suc fuel)
    go (stop r p e e') on = omega (arith, placed (e fuel))
    go (one i used taken u e e') on = omega (arith, placed (e fuel), on (at + used) (room - taken) (places - 1))
    go (lacks t h e) on = omega (arith, placed (e fuel))

-- an item before both
item-before : (small at : ℕ) (place place' : ℕ → ℕ) (i : Item) {w v : Recorded} → place 0 ≡ at → ((k : ℕ) → place (suc k) ≡ place' k)
    → at < w.place → Nest small place' w v → Nest small place (before i w) (before i v)
item-before small at place place' i z s l (alike e) = alike (ap (before i) e)
item-before small at place place' i {w} {v} z s l (ends t e h x) =
    ends t e h (record { rest = x.rest; items = ap (λ l. i ∷ l) x.items; early = early; late = late })
  where
    early : (k : ℕ) → k < suc (length w.items) → place k < w.place
    early zero q = omega arith
    early (suc k) q = rw (s k) (x.early k (omega arith))

    late : (k : ℕ) → suc (length w.items) ≤ k → w.place ≤ place k
    late zero q = absurd (omega arith)
    late (suc k) q = rw (s k) (x.late k (omega arith))

pub items-nest : (fuel : ℕ) (octets : List ℕ) (law a b at room places : ℕ) → is_set a ≡ true → is_set b ≡ true → Within a b
    → Nest a (place_from octets law b at room places) (items_from fuel octets law a at room places)
    (items_from fuel octets law b at room places)
items-nest zero octets law a b at room places s t n = alike (no_items octets law a b at room places)
items-nest (suc fuel) octets law a b at room places s t n =
    go (both octets law a b at room places s t n) (λ at room places. items-nest fuel octets law a b at room places s t n)
  where
    Nested : ℕ → ℕ → ℕ → ℕ → Type 0
    Nested fuel at room places = Nest a (place_from octets law b at room places) (items_from fuel octets law a at room places)
        (items_from fuel octets law b at room places)

    go : Both octets law a b at room places → ((at room places : ℕ) → Nested fuel at room places) → Nested (suc fuel) at room places
    go (stop r p e e') later = alike (e fuel ∙ sym (e' fuel))
    go (one i used taken u e e') later =
        let on = goes_on fuel octets law a (at + used) (room - taken) (places - 1) s in
        rw (e fuel, e' fuel)
        (item-before a at (place_from octets law b at room places) (place_from octets law b (at + used) (room - taken) (places - 1)) i
        (place-first octets law b at room places) (λ k. placed (e' k)) (omega arith)
        (later (at + used) (room - taken) (places - 1)))
    go (lacks k h e) later =
        rw (e fuel) (ends k refl h (record {
          rest = (items_from (suc fuel) octets law b at room places).items;
          items = refl;
          early = λ k q. absurd (omega arith);
          late = λ k q. goes_on k octets law b at room places t;
        }))

-- of whole files: the law is the same, and what is read nests. Places count from the heading's end
abbrev pub place_in : List ℕ → ℕ → ℕ → ℕ → ℕ → ℕ → ℕ
place_in octets set room places law k = place_from (drop heading_length octets) law set 0 room places k

pub record FilesNest (small : ℕ) (place : ℕ → ℕ → ℕ) (w v : File) : Type 0 where
  pub law : w.law ≡ v.law
  pub read : Nest small (place v.law) w.read v.read

same-file : (small : ℕ) (place : ℕ → ℕ → ℕ) (w : File) → FilesNest small place w w
same-file small place w = record { law = refl; read = alike refl }

heading-nest : (small : ℕ) (place : ℕ → ℕ → ℕ) (h : Headed) (none : File) {next next' : ℕ → File}
    → ((law : ℕ) → FilesNest small place (next law) (next' law))
    → FilesNest small place (by_heading h none next) (by_heading h none next')
heading-nest small place no_heading none k = same-file small place none
heading-nest small place (heading law) none k = k law

test-files : (small : ℕ) (place : ℕ → ℕ → ℕ) (b : Bool) (x : File) {w v : File} → FilesNest small place w v
    → FilesNest small place (cond b x w) (cond b x v)
test-files small place true x h = same-file small place x
test-files small place false x h = h

pub files-nest : (octets : List ℕ) (a b room places : ℕ) → is_set a ≡ true → is_set b ≡ true → Within a b
    → FilesNest a (place_in octets b room places) (read_file octets a room places) (read_file octets b room places)
unfolding read_file
files-nest octets a b room places s t n =
    let place = place_in octets b room places in
    rw (s, t) (heading-nest a place (headed octets) (nothing Head 0) (λ law.
    test-files a place (not (leb (length octets - heading_length) longest)) (nothing (Frame rules.Long) law)
    (record {
      law = refl {a = law};
      read = items-nest (suc (length octets - heading_length)) (drop heading_length octets)
          law a b 0 room places s t n;
    })))
