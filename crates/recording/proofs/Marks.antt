-- The two marks of a lost frame.
--   lost-refused: document 01's reader refuses the octet 01.      never-lost: no frame begins with it.
--   walk-lost: "document 01's walk still refuses the lost-frame mark", at its place.
--   erased-loss: as many 0++ as one likes are an erasure frame.
use Prim.Native.Nat.{ℕ, suc, ◌≤◌, ◌<◌}
use native.Mathlib.Omega.{arith}
use mathlib.Core.Path.{◌≡◌, refl, sym, ap, ◌∙◌}
use mathlib.Core.List.{List, ◌∷◌, ◌++◌}
use mathlib.Core.Bool.{Bool, true, false}
use lib.ListN.{length, get_or, drop, replicate, length-append, length-replicate}
use lib.Seq.{drop-cons, drop-append_seam, drop-append-le}
use lib.Dec.{eqb}
use borrow.Author.Tests.{eq-eqb, eqb-true, ne_eqb}
use Rattle.rules.specs.declared.Refusal.{Refusal}
use Rattle.rules.specs.declared.Refusal.TheVariants.{Prefix}
use Rattle.rules.specs.Refusals.{Ending}
use Rattle.std.proofs.Common.{Ok, Err}
use Rattle.rules.specs.Tools.{is_set, is_law}
use Rattle.rules.specs.Bits.{bits_of}
use Rattle.rules.specs.Reading.{whole, refuse}
use Rattle.rules.specs.First.{first_octet, look_up, rows}
use Rattle.rules.specs.Frame.{Found, frame, after_first, read_one}
use Rattle.rules.specs.Walk.{Walked, walk_all}
use Rattle.rules.proofs.Counts.{count-replicate}
use Rattle.rules.proofs.Gives.{no-refusal}
use Rattle.promises.proofs.Back.{back-number, back-first}
use Rattle.promises.proofs.Further.{looks-no-further}
use Rattle.promises.proofs.Walks.{WalkOf, ended, refused, delivers, uses, Walkable, walk-all-of, walk-all-only}
use Rattle.recording.specs.Remembered.{lost_octet, plus_plus, erased}

-- document 01's reader refuses the octet 01 with PREFIX
pub lost-refused : (law set room : ℕ) (more : List ℕ) → is_law law ≡ true → is_set set ≡ true
    → read_one (lost_octet ∷ more) law set room ≡ refuse Prefix 0
unfolding read_one bits_of frame after_first first_octet look_up rows
lost-refused law set room more l s = rw (l, s, back-first (back-number 8 1 (omega arith)) (bits_of more)) refl

-- where a frame is read, no loss stands
pub never-lost : (octets : List ℕ) (law set at room : ℕ) {f : Found} {j : ℕ} → is_law law ≡ true → is_set set ≡ true → at < length octets
    → read_one (drop at octets) law set room ≡ whole f j → eqb (get_or octets at 0) lost_octet ≡ false
never-lost octets law set at room {f} {j} l s h e = go (eqb (get_or octets at 0) lost_octet) refl
  where
    go : (b : Bool) → eqb (get_or octets at 0) lost_octet ≡ b → b ≡ false
    go false q = refl
    go true q =
        let first : drop at octets ≡ lost_octet ∷ drop (suc at) octets = drop-cons octets at 0 h
        ∙ ap (λ x. x ∷ drop (suc at) octets) (eqb-true (get_or octets at 0) lost_octet q) in
        let why : read_one (drop at octets) law set room ≡ refuse Prefix 0 =
        rw first (lost-refused law set room (drop (suc at) octets) l s) in
        no-refusal (sym why ∙ e)

-- Where a walk has come to its octets' end and the octet 01 follows, whatever stands behind it, it delivers the same frames and ends there
-- with PREFIX
done-only : {w : Refusal} → ◌≡◌ {A = Ending} (Err w) (Ok tt) → ⊥
done-only e = let z : ◌≡◌ {A = ℕ} 0 1 = cc in omega arith

lost-behind : (more : List ℕ) {octets : List ℕ} {law set at room : ℕ} {w : Walked} → is_law law ≡ true → is_set set ≡ true
    → at ≤ length octets → WalkOf octets law set at room w → w.end ≡ Ok tt
    → WalkOf (octets ++ (lost_octet ∷ more)) law set at room
    (record { frames = w.frames; end = Err Prefix; place = length octets; bit = 0 })
lost-behind more {octets} {law} {set} {at} {room} l s h (ended k) e =
    let same : at ≡ length octets = omega arith in
    let rest : drop at (octets ++ (lost_octet ∷ more)) ≡ lost_octet ∷ more =
    ap (λ n. drop n (octets ++ (lost_octet ∷ more))) same ∙ drop-append_seam octets (lost_octet ∷ more) in
    let why : read_one (drop at (octets ++ (lost_octet ∷ more))) law set room ≡ refuse Prefix 0 = rw rest (lost-refused law set room more l s) in
    rw (← same) (refused {at = at} (omega (arith, length-append octets (lost_octet ∷ more))) why)
lost-behind more l s h (refused k d) e = absurd (done-only e)
lost-behind more {octets} {law} {set} {at} {room} l s h (delivers {f = f} {j = j} k d t) e =
    let u = uses octets law set at room k d in
    let same : read_one (drop at (octets ++ (lost_octet ∷ more))) law set room ≡ whole f j =
    rw (drop-append-le at octets (lost_octet ∷ more) h)
    (looks-no-further (drop at octets) (lost_octet ∷ more) law set room (λ b z. no-refusal (sym z ∙ d)) ∙ d) in
    delivers {at = at} (omega (arith, length-append octets (lost_octet ∷ more))) same (lost-behind more l s u.1 t e)

pub walk-lost : (octets more : List ℕ) (law set room : ℕ) → Walkable (octets ++ (lost_octet ∷ more)) law set
    → (walk_all octets law set room).end ≡ Ok tt
    → walk_all (octets ++ (lost_octet ∷ more)) law set room
    ≡ record { frames = (walk_all octets law set room).frames; end = Err Prefix; place = length octets; bit = 0 }
walk-lost octets more law set room t e =
    let short : Walkable octets law set = record
    { lawful = t.lawful; small = t.small; short = omega (arith, t.short, length-append octets (lost_octet ∷ more)) } in
    walk-all-only t (lost-behind more t.lawful t.small (omega arith) (walk-all-of octets law set room short) e)

-- a loss of n samples, as it is written, is an erasure frame
pub erased-loss : (mask n : ℕ) → 1 ≤ n → erased mask (replicate n (plus_plus mask)) ≡ true
unfolding erased
erased-loss mask n h =
    rw (length-replicate n (plus_plus mask), ne_eqb n 0 (omega arith), count-replicate (plus_plus mask) n, eq-eqb n n refl) refl
