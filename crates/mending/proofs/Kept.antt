-- What a walk keeps is within its octets and its room (`walk-within`).
use Prim.Native.Nat.{ℕ, zero, suc, ◌+◌, ◌-◌, ◌≤◌}
use native.Mathlib.Omega.{arith}
use mathlib.Core.Path.{◌≡◌, refl}
use mathlib.Core.List.{List}
use mathlib.Core.Bool.{Bool, true, false, cond}
use lib.ListN.{length, drop, length-append, length-drop}
use lib.Dec.{leb}
use Rattle.rules.specs.declared.Refusal.{Refusal}
use Rattle.std.proofs.Common.{Ok, Err}
use Rattle.rules.specs.Reading.{Read, whole, refuse}
use Rattle.rules.specs.Frame.{Found, octets_used, read_one}
use Rattle.rules.specs.Walk.{Walked, stopped, before, onward, walk_from, octets_kept, samples_kept}
use Rattle.rules.proofs.Accepted.{read-accepts, read-uses}

pub record Within (size at room : ℕ) (w : Walked) : Type 0 where
  pub octets : at + octets_kept w.frames ≤ size
  pub samples : length (samples_kept w.frames) ≤ room

pub walk-within : (fuel : ℕ) (octets : List ℕ) (law set at room : ℕ) → at ≤ length octets
    → Within (length octets) at room (walk_from fuel octets law set at room)
unfolding walk_from octets_kept samples_kept
walk-within zero octets law set at room h = record { octets = omega arith; samples = omega arith }
walk-within (suc fuel) octets law set at room h =
    start (leb (length octets) at) refl (λ f. walk-within fuel octets law set (at + octets_used f) (room - length f.samples))
  where
    rest : Found → Walked
    rest f = walk_from fuel octets law set (at + octets_used f) (room - length f.samples)

    next : Found → Walked
    next f = before (record { place = at; found = f }) (rest f)

    stop : Refusal → ℕ → Walked
    stop w bit = stopped (Err w) at bit

    Later : Type 0
    Later = (f : Found) → at + octets_used f ≤ length octets
        → Within (length octets) (at + octets_used f) (room - length f.samples) (rest f)

    none : (w : Refusal) (bit : ℕ) → Within (length octets) at room (stop w bit)
    none w bit = record { octets = omega arith; samples = omega arith }

    one : (m : Read Found) → read_one (drop at octets) law set room ≡ m → Later → Within (length octets) at room (onward m next stop)
    one (whole f j) e later =
        let u = read-uses (drop at octets) law set room e in
        let a = read-accepts (drop at octets) law set room e in
        let i = later f (omega (arith, u.1, length-drop at octets)) in
        record {
          octets = omega (arith, i.octets);
          samples = omega (arith, i.samples, a.fits, length-append f.samples (samples_kept (rest f).frames));
        }
    one (refuse w bit) e later = none w bit

    start : (b : Bool) → leb (length octets) at ≡ b → Later
        → Within (length octets) at room (cond b (stopped (Ok tt) at 0) (onward (read_one (drop at octets) law set room) next stop))
    start true e later = record { octets = omega arith; samples = omega arith }
    start false e later = one (read_one (drop at octets) law set room) refl later
