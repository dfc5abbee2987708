-- A walk by its frames: each next one starts where the last one ended, until the octets end or a frame is refused.
use Prim.Native.Nat.{ℕ, zero, suc, ◌+◌, ◌-◌, ◌≤◌, ◌<◌}
use native.Mathlib.Omega.{arith}
use mathlib.Core.Path.{◌≡◌, refl, ◌∙◌}
use mathlib.Core.List.{List}
use mathlib.Core.Bool.{Bool, true, false, cond}
use lib.ListN.{length, drop, length-drop}
use lib.Dec.{leb}
use borrow.Author.Tests.{le-leb, lt-leb, leb-true, leb-false}
use Rattle.rules.specs.declared.Refusal.{Refusal}
use Rattle.std.proofs.Common.{Ok, Err}
use Rattle.rules.specs.Tools.{is_set, is_law}
use Rattle.rules.specs.Reading.{Read, whole, refuse}
use Rattle.rules.specs.Frame.{Found, octets_used, read_one}
use Rattle.rules.specs.Walk.{Walked, stopped, before, onward, walk_from, longest, walk_all}
use Rattle.rules.proofs.Accepted.{read-uses}

-- the walk from place `at` on, with so much room
pub data WalkOf (octets : List ℕ) (law set : ℕ) : ℕ → ℕ → Walked → Type 0 where
  ended : {at room : ℕ} → length octets ≤ at → WalkOf octets law set at room (stopped (Ok tt) at 0)
  refused : {at room : ℕ} {w : Refusal} {bit : ℕ} → at < length octets → read_one (drop at octets) law set room ≡ refuse w bit
      → WalkOf octets law set at room (stopped (Err w) at bit)
  delivers : {at room : ℕ} {f : Found} {j : ℕ} {rest : Walked} → at < length octets → read_one (drop at octets) law set room ≡ whole f j
      → WalkOf octets law set (at + octets_used f) (room - length f.samples) rest
      → WalkOf octets law set at room (before (record { place = at; found = f }) rest)

-- a frame uses an octet or more, and no more than there are
pub uses : (octets : List ℕ) (law set at room : ℕ) {f : Found} {j : ℕ} → at < length octets
    → read_one (drop at octets) law set room ≡ whole f j → (at < at + octets_used f) × (at + octets_used f ≤ length octets)
uses octets law set at room h e =
    let u = read-uses (drop at octets) law set room e in
    (omega (arith, u.0), omega (arith, u.1, length-drop at octets))

-- the definition, with enough fuel, is such a walk
pub walk-of : (fuel : ℕ) (octets : List ℕ) (law set at room : ℕ) → length octets < at + fuel
    → WalkOf octets law set at room (walk_from fuel octets law set at room)
unfolding walk_from
walk-of zero octets law set at room h = ended {at = at} (omega arith)
walk-of (suc fuel) octets law set at room h =
    start (leb (length octets) at) refl (λ f k. walk-of fuel octets law set (at + octets_used f) (room - length f.samples) (omega arith))
  where
    next : Found → Walked
    next f = before (record { place = at; found = f }) (walk_from fuel octets law set (at + octets_used f) (room - length f.samples))

    stop : Refusal → ℕ → Walked
    stop w bit = stopped (Err w) at bit

    Later : Type 0
    Later = (f : Found) → at < at + octets_used f → WalkOf octets law set (at + octets_used f) (room - length f.samples)
        (walk_from fuel octets law set (at + octets_used f) (room - length f.samples))

    one : (m : Read Found) → read_one (drop at octets) law set room ≡ m → at < length octets → Later
        → WalkOf octets law set at room (onward m next stop)
    one (whole f j) e l later = delivers l e (later f (uses octets law set at room l e).0)
    one (refuse w bit) e l later = refused l e

    start : (b : Bool) → leb (length octets) at ≡ b → Later
        → WalkOf octets law set at room (cond b (stopped (Ok tt) at 0) (onward (read_one (drop at octets) law set room) next stop))
    start true e later = ended (leb-true (length octets) at e)
    start false e later = one (read_one (drop at octets) law set room) refl (leb-false (length octets) at e) later

-- one step of the definition
pub walk-next : (fuel : ℕ) (octets : List ℕ) (law set at room : ℕ) {f : Found} {j : ℕ} → at < length octets
    → read_one (drop at octets) law set room ≡ whole f j → walk_from (suc fuel) octets law set at room
    ≡ before (record { place = at; found = f }) (walk_from fuel octets law set (at + octets_used f) (room - length f.samples))
unfolding walk_from
walk-next fuel octets law set at room h e = rw (lt-leb (length octets) at h, e) refl

-- and such a walk is the definition, with enough fuel
pub walk-only : {octets : List ℕ} {law set at room : ℕ} {w : Walked} → WalkOf octets law set at room w → (fuel : ℕ)
    → length octets < at + fuel → walk_from fuel octets law set at room ≡ w
unfolding walk_from
walk-only (ended h) zero l = refl
walk-only {octets = octets} {at = at} (ended h) (suc fuel) l = rw (le-leb (length octets) at h) refl
walk-only (refused h e) zero l = absurd (omega arith)
walk-only {octets = octets} {at = at} (refused h e) (suc fuel) l = rw (lt-leb (length octets) at h, e) refl
walk-only (delivers h e t) zero l = absurd (omega arith)
walk-only {octets} {law} {set} {at} {room} (delivers h e t) (suc fuel) l =
    let u = uses octets law set at room h e in
    rw (lt-leb (length octets) at h, e, walk-only t fuel (omega arith)) refl

-- the tests of a walk
pub record Walkable (octets : List ℕ) (law set : ℕ) : Type 0 where
  pub lawful : is_law law ≡ true
  pub small : is_set set ≡ true
  pub short : length octets ≤ longest

pub walk-all : (octets : List ℕ) (law set room : ℕ) → Walkable octets law set
    → walk_all octets law set room ≡ walk_from (suc (length octets)) octets law set 0 room
unfolding walk_all
walk-all octets law set room t = rw (t.lawful, t.small, le-leb (length octets) longest t.short) refl

pub walk-all-of : (octets : List ℕ) (law set room : ℕ) → Walkable octets law set
    → WalkOf octets law set 0 room (walk_all octets law set room)
walk-all-of octets law set room t = rw (walk-all octets law set room t) (walk-of (suc (length octets)) octets law set 0 room (omega arith))

pub walk-all-only : {octets : List ℕ} {law set room : ℕ} {w : Walked} → Walkable octets law set → WalkOf octets law set 0 room w
    → walk_all octets law set room ≡ w
walk-all-only {octets} {law} {set} {room} t h = walk-all octets law set room t ∙ walk-only h (suc (length octets)) (omega arith)
