-- The octets of recordings one after another: up to where the items of the first ended, and then the items of the second, as by themselves
-- (`items-joined`).
use Prim.Native.Nat.{ℕ, suc, ◌+◌, ◌*◌, ◌-◌, ◌≤◌, ◌<◌}
use native.Mathlib.Omega.{arith}
use mathlib.Core.Path.{◌≡◌, refl, sym, ap, ◌∙◌}
use mathlib.Core.List.{List, ◌∷◌, ◌++◌}
use mathlib.Core.Bool.{Bool, true, false, cond}
use lib.ListN.{length, get_or, take, drop, length-append, take-append-drop, get_or-append}
use lib.Seq.{drop-drop, drop_at, drop-append-le, length-take-le, get_or-drop}
use lib.Dec.{eqb}
use Rattle.rules.specs.declared.Refusal.TheVariants.{Short}
use Rattle.rules.specs.Samples.{mask_of}
use Rattle.rules.specs.Reading.{Read, whole, refuse}
use Rattle.rules.specs.Frame.{Found, octets_used, read_one}
use Rattle.promises.proofs.Further.{looks-no-further}
use Rattle.promises.proofs.Refused.{cut_at}
use Rattle.std.proofs.Common.{Ok}
use Rattle.recording.specs.Remembered.{lost_octet}
use Rattle.recording.specs.Items.{Item, lost, Recorded, before, items_from, sound_of, sound_in}
use Rattle.recording_read.specs.Turns.{takes, frame_step, item_step}
use Rattle.recording_read.proofs.Steps.{after, items-last, items-ended, items-full, items-off, items-one}
use Rattle.recording_read.proofs.Parts.{Reads, last, ended, full, refused, delivers}
use Rattle.recording_read.proofs.Parts.{reads, reads_only, items-told, items-on, items-fuel, items-roomy}

-- all items, with room and places that are never short
abbrev pub played : List ℕ → ℕ → ℕ → Recorded
played body law set = items_from (suc (length body)) body law set 0 (320 * length body) (length body)

same-used : {i k : Item} {m n : ℕ} → takes i m ≡ takes k n → m ≡ n
same-used e = cc

-- an item that is delivered stands, whatever follows its octets
step_stays : (w : List ℕ) (law set p at room : ℕ) (z : List ℕ) {i : Item} {used : ℕ} → at < p → item_step w law set at room ≡ takes i used
    → at + used ≤ p → p ≤ length w → item_step (take p w ++ z) law set at room ≡ takes i used
step_stays w law set p at room z {i} {used} h e k q = go (eqb (get_or w at 0) lost_octet) refl e
  where
    long : length (take p w) ≡ p
    long = length-take-le p w q

    first : get_or (take p w ++ z) at 0 ≡ get_or w at 0
    first =
        get_or-append (take p w) z 0 at (omega (arith, long)) ∙ sym (get_or-append (take p w) (drop p w) 0 at (omega (arith, long)))
        ∙ ap (λ (l : List ℕ). get_or l at 0) (take-append-drop p w)

    one : (m : Read Found) → read_one (drop at w) law set room ≡ m → frame_step (mask_of law) m ≡ takes i used
        → frame_step (mask_of law) (read_one (drop at (take p w ++ z)) law set room) ≡ takes i used
    one (whole f j) r g =
        let u : octets_used f ≡ used = same-used g in
        let c = cut_at w law set at p room (omega (arith, u)) q r in
        let no : (n : ℕ) → read_one (drop at (take p w)) law set room ≡ refuse Short n → ⊥ = λ n s. let y : ◌≡◌ {A = ℕ} 0 1 = cc in
        absurd (omega arith) in
        let d = drop-append-le at (take p w) z (omega (arith, long)) in
        ap (frame_step (mask_of law))
        (ap (λ (l : List ℕ). read_one l law set room) d ∙ looks-no-further (drop at (take p w)) z law set room no ∙ c) ∙ g
    one (refuse v bit) r g = let y : ◌≡◌ {A = ℕ} 0 1 = cc in absurd (omega arith)

    go : (b : Bool) → eqb (get_or w at 0) lost_octet ≡ b
        → cond b (takes (lost 0) 1) (frame_step (mask_of law) (read_one (drop at w) law set room)) ≡ takes i used
        → item_step (take p w ++ z) law set at room ≡ takes i used
    go true t g = rw (first, t) g
    go false t g = rw (first, t) (one (read_one (drop at w) law set room) refl g)

-- the items up to where a reading ended, and there an end
abbrev up_to : Recorded → Recorded
up_to r = record { items = r.items; end = Ok tt; place = r.place; bit = 0 }

-- they are read again, whatever follows
ahead : (w : List ℕ) (law set : ℕ) (z : List ℕ) {n at room places : ℕ} {r : Recorded} → Reads w law set n at room places r
    → r.place ≤ length w
    → at + length r.items ≤ r.place → Reads (take r.place w ++ z) law set (length r.items) at room places (up_to r)
ahead w law set z last q s = last
ahead w law set z (ended h) q s = last
ahead w law set z (full h) q s = last
ahead w law set z (refused h e) q s = last
ahead w law set z {n = suc n} {at} {room} {places = suc places} (delivers {i = i} {used = used} {rest = r} h e t) q s =
    let told = items-told-of w law set t in
    let inside : at < length (take r.place w ++ z) = omega (arith, length-append (take r.place w) z, length-take-le r.place w q) in
    delivers inside (step_stays w law set r.place at room z (omega arith) e (omega (arith, told)) q) (ahead w law set z t q told)
  where
    items-told-of : (w : List ℕ) (law set : ℕ) {n at room places : ℕ} {r : Recorded} → Reads w law set n at room places r
        → at + length r.items ≤ r.place
    items-told-of w law set {n} {at} {room} {places} {r} t =
        let d = items-told w law set n at room places in
        let o = reads_only w law set t in
        omega (arith, d.some, ap (λ (x : Recorded). length x.items) o, ap (λ (x : Recorded). x.place) o)

-- items of the second octets, further on
pub record Moved (k : ℕ) (w v : Recorded) : Type 0 where
  pub items : v.items ≡ w.items
  pub end : v.end ≡ w.end
  pub place : v.place ≡ k + w.place
  pub bit : v.bit ≡ w.bit

moved_as : {k : ℕ} {w v u : Recorded} → u ≡ v → Moved k w v → Moved k w u
moved_as e m = rw e m

module _ (a b : List ℕ) (law set : ℕ) where
  behind : (q : ℕ) → drop (length a + q) (a ++ b) ≡ drop q b
  behind q = sym (drop-drop q (length a) (a ++ b)) ∙ ap (λ (x : List ℕ). drop q x) (drop_at a b (length a) refl)

  step-behind : (q room : ℕ) → item_step (a ++ b) law set (length a + q) room ≡ item_step b law set q room
  step-behind q room =
      let z : length a + q + 0 ≡ length a + q = omega arith in
      let y : q + 0 ≡ q = omega arith in
      let first : get_or (a ++ b) (length a + q) 0 ≡ get_or b q 0 =
      ap (λ (k : ℕ). get_or (a ++ b) k 0) (sym z) ∙ sym (get_or-drop (length a + q) (a ++ b) 0 0) ∙ ap (λ (l : List ℕ). get_or l 0 0) (behind q)
      ∙ get_or-drop q b 0 0 ∙ ap (λ (k : ℕ). get_or b k 0) y in
      rw (first, behind q)

  shift : {n q room places : ℕ} {r : Recorded} → Reads b law set n q room places r
      → Moved (length a) r (items_from n (a ++ b) law set (length a + q) room places)
  shift {q = q} {room} {places} last =
      moved_as (items-last (a ++ b) law set 0 (length a + q) room places refl)
      (record { items = refl; end = refl; place = refl; bit = refl })
  shift {n} {q} {room} {places} (ended h) =
      moved_as (items-ended (a ++ b) law set n (length a + q) room places (omega (arith, length-append a b)))
      (record { items = refl; end = refl; place = refl; bit = refl })
  shift {n = suc n} {q} {room} (full h) =
      moved_as (items-full (a ++ b) law set (suc n) n (length a + q) room 0 refl (omega (arith, length-append a b)) refl)
      (record { items = refl; end = refl; place = refl; bit = refl })
  shift {n = suc n} {q} {room} {places = suc places} (refused {w = w} {bit = bit} h e) =
      moved_as
      (items-off (a ++ b) law set (suc n) n (length a + q) room (suc places) refl (omega (arith, length-append a b)) (omega arith) w bit
      (step-behind q room ∙ e))
      (record { items = refl; end = refl; place = refl; bit = refl })
  shift {n = suc n} {q} {room} {places = suc places} (delivers {i = i} {used = used} h e t) =
      let m = shift t in
      let next : length a + q + used ≡ length a + (q + used) = omega arith in
      moved_as
      (items-one (a ++ b) law set (suc n) n (length a + q) room (suc places) refl (omega (arith, length-append a b)) (omega arith) i used
      (room - length (sound_of i)) places (step-behind q room ∙ e) refl (omega arith)
      ∙ ap (λ (k : ℕ). before i (items_from n (a ++ b) law set k (room - length (sound_of i)) places)) next)
      (record { items = ap (λ (l : List Item). i ∷ l) m.items; end = m.end; place = m.place; bit = m.bit })

-- a whole reading keeps inside
pub played-told : (w : List ℕ) (law set : ℕ)
    → ((played w law set).place ≤ length w) × (length (played w law set).items ≤ (played w law set).place)
    × (length (sound_in (played w law set).items) ≤ 320 * length (played w law set).items)
    × ((played w law set).end ≡ Ok tt → (played w law set).place ≡ length w)
played-told w law set =
    let t = items-told w law set (suc (length w)) 0 (320 * length w) (length w) in
    let inside = t.inside (omega arith) in
    (inside, omega (arith, t.some), t.held, λ e. omega (arith, inside, t.all e (omega (arith, t.some, inside))))

-- the reading of octets that begin with those of another up to where that ended
record Begun (w : List ℕ) (law set : ℕ) (z : List ℕ) : Type 0 where
  first : items_from (length (played w law set).items) (take (played w law set).place w ++ z) law set 0
      (320 * length (take (played w law set).place w ++ z)) (length (take (played w law set).place w ++ z)) ≡ up_to (played w law set)

begun : (w : List ℕ) (law set : ℕ) (z : List ℕ) → Begun w law set z
begun w law set z =
    let r = played w law set in
    let told = played-told w law set in
    let x = take r.place w ++ z in
    let long : length (take r.place w) ≡ r.place = length-take-le r.place w told.0 in
    let l = length-append (take r.place w) z in
    let n = length r.items in
    let same = reads_only x law set
    (ahead w law set z (reads w law set (suc (length w)) 0 (320 * length w) (length w)) told.0 (omega (arith, told.1))) in
    record {
      first =
          items-roomy x law set n 0 (320 * length x) (length x) (320 * length w) (length w)
          (omega (arith, told.1, l, long), omega (arith, told.1, l, long))
          (omega (arith, told.0, told.1), omega (arith, told.0, told.1)) ∙ same;
    }

pub record Joined (w : List ℕ) (law set : ℕ) (z : List ℕ) (r : Recorded) : Type 0 where
  pub items : r.items ≡ (played w law set).items ++ (played z law set).items
  pub end : r.end ≡ (played z law set).end
  pub place : r.place ≡ (played w law set).place + (played z law set).place
  pub bit : r.bit ≡ (played z law set).bit

-- octets up to where their items ended, and then any others
pub items-joined : (w : List ℕ) (law set : ℕ) (z : List ℕ)
    → Joined w law set z (played (take (played w law set).place w ++ z) law set)
items-joined w law set z =
    let r = played w law set in
    let told = played-told w law set in
    let a = take r.place w in
    let x = a ++ z in
    let long : length a ≡ r.place = length-take-le r.place w told.0 in
    let l = length-append a z in
    let n = length r.items in
    let m = suc (length x) in
    let room = 320 * length x - length (sound_in r.items) in
    let places = length x - length r.items in
    let firstly = (begun w law set z).first in
    let all : played x law set ≡ after r.items (items_from m x law set (length a + 0) room places) =
    items-fuel x law set m (n + m) 0 (320 * length x) (length x) (omega arith) (omega arith)
    ∙ items-on x law set n m 0 (320 * length x) (length x) (ap (λ (v : Recorded). v.end) firstly)
    ∙ ap (λ (v : Recorded). after v.items
    (items_from m x law set v.place (320 * length x - length (sound_in v.items)) (length x - length v.items)))
    firstly ∙ ap (λ (k : ℕ). after r.items (items_from m x law set k room places)) (omega (arith, long)) in
    let rest : items_from m z law set 0 room places ≡ played z law set =
    items-fuel z law set m (suc (length z)) 0 room places (omega (arith, l)) (omega arith)
    ∙ items-roomy z law set (suc (length z)) 0 room places (320 * length z) (length z)
    (omega (arith, told.2, told.1, l, long), omega (arith, told.1, l, long)) (omega arith, omega arith) in
    let v = shift a z law set (reads z law set m 0 room places) in
    rw all (record {
      items = ap (λ (k : List Item). r.items ++ k) (v.items ∙ ap (λ (y : Recorded). y.items) rest);
      end = v.end ∙ ap (λ (y : Recorded). y.end) rest;
      place = v.place ∙ omega (arith, long, ap (λ (y : Recorded). y.place) rest);
      bit = v.bit ∙ ap (λ (y : Recorded). y.bit) rest;
    })
