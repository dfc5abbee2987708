-- Laws of the methods: which one is right, and its bits.
use Prim.Native.Nat.{ℕ, zero, suc, ◌+◌, ◌*◌, ◌≤◌, ◌<◌}
use mathlib.Core.Path.{◌≡◌, refl, sym, ap, ◌∙◌}
use mathlib.Core.List.{List, [], ◌∷◌}
use mathlib.Core.Bool.{cond, ◌&&◌}
use native.Mathlib.Omega.{arith}
use native.Mathlib.Nat.{zero-add, zero-mul, suc-mul, mul-le-mul}
use borrow.Author.Tests.{ne_eqb, lt-ltb, le-ltb, le-leb, lt-leb}
use lib.ListN.{length, replicate, length-append}
use lib.Dec.{eqb, leb, ltb}
use Rattle.rules.specs.Runs.{runs_of, runs_form}
use Rattle.rules.specs.Located.{width_of}
use Rattle.rules.specs.Chooses.{count_of, least_from, run_s, fewest_run_bits, method_of, method_form, value_form, places_of, numbers_form}
use Rattle.rules.proofs.Octets.{length-low_bits, Below, none, more}
use Rattle.write_measure.specs.declared.Least.{Least}
use Rattle.write_measure.specs.Measures.{bits_with, LeastIs}
use Rattle.write_located.specs.declared.Way.{Way}
use Rattle.write_located.specs.Ways.{FlagsAre, WayIs, WayFor}
use Rattle.write_measure.proofs.Weighing.{zero-at}

runs-alone : (flags : List ℕ) → bits_with (replicate 10 0) (runs_of 0 flags) ≡ (λ s. length (runs_form s flags))
runs-alone flags = λ i s. alone s i
  where
    alone : (s : ℕ) → bits_with (replicate 10 0) (runs_of 0 flags) s ≡ length (runs_form s flags)
    alone s = ap (λ (z : ℕ). z + length (runs_form s flags)) (zero-at 10 s) ∙ zero-add _

-- the least S of runs, and L
pub record Fewest (flags : List ℕ) (r : Least) : Type 0 where
  pub s : r.s ≡ run_s flags
  pub bits : r.bits ≡ fewest_run_bits flags
  pub from : 1 ≤ r.s
  pub to : r.s ≤ 4

pub fewest : {flags runs : List ℕ} {r : Least} → runs ≡ runs_of 0 flags → LeastIs (bits_with (replicate 10 0) runs) 4 r → Fewest flags r
fewest {flags} {runs} {r} e l =
    let g : ℕ → ℕ = λ s. length (runs_form s flags) in
    let f : bits_with (replicate 10 0) runs ≡ g = ap (bits_with (replicate 10 0)) e ∙ runs-alone flags in
    let s : r.s ≡ run_s flags = l.s ∙ ap (λ (h : ℕ → ℕ). least_from h 1 2 3) f in
    record { s = s; bits = l.bits ∙ ap (λ (h : ℕ → ℕ). h r.s) f ∙ ap g s; from = l.from; to = l.to }

numbers-length : (w : ℕ) (ps : List ℕ) → length (numbers_form w ps) ≡ length ps * w
unfolding numbers_form
numbers-length w [] = sym (zero-mul w)
numbers-length w (p ∷ ps) = let e = numbers-length w ps in rw (length-append, length-low_bits, suc-mul) (omega arith)

places-length : (p : ℕ) {flags : List ℕ} → Below 2 flags → length (places_of p flags) ≡ count_of (λ f. eqb f 1) flags
unfolding places_of count_of
places-length p none = refl
places-length p (more {x = zero} h t) = places-length (p + 1) t ∙ omega arith
places-length p (more {x = suc zero} h t) = ap suc (places-length (p + 1) t) ∙ omega arith
places-length p (more {x = suc (suc x)} h t) = absurd (omega arith)

value-length : (flags : List ℕ) {m : ℕ} → m ≡ method_of flags → length (value_form flags) ≡ 3 + length (method_form m flags)
unfolding value_form
value-length flags e = rw (length-append, length-low_bits, ← e)

module _ {flags : List ℕ} {count : ℕ} (ones : count ≡ count_of (λ f. eqb f 1) flags) where
  pub way-absent : {d found : ℕ} → count ≡ 0 → WayIs flags (record { method = 5; bits = 3; d = d; count = count; runs = found })
  unfolding method_of method_form
  way-absent z =
      let m : 5 ≡ method_of flags = rw (← ones, z) in
      record { method = m; bits = sym (value-length flags m); most = omega arith; small = omega arith }

  module _ (some : count ≡ 0 → ⊥) {r : Least} (f : Fewest flags r) (found : ℕ) {d : ℕ} (size : length flags ≡ d) (few : d ≤ 320) where
    -- the way by a method
    abbrev by : ℕ → ℕ → Way
    by m bits = record { method = m; bits = bits; d = d; count = count; runs = found }

    method-is : (w : ℕ) → w ≡ width_of d
        → cond (ltb d r.bits) 0 (cond (leb count 4 && ltb (count * w + 2) r.bits) 7 r.s) ≡ method_of flags
    unfolding method_of
    method-is w e = rw (e, ← size, f.bits, f.s, ← ones, ne_eqb count 0 some)

    pub way-binary : d < r.bits → WayIs flags (by 0 (3 + d))
    unfolding method_form
    way-binary h =
        let m : 0 ≡ method_of flags = rw (lt-ltb d r.bits h) at (method-is (width_of d) refl) in
        record { method = m; bits = rw (value-length flags m, size); most = omega arith; small = omega arith }

    by_runs : r.bits ≤ d → {m : ℕ} → m ≡ r.s → r.s ≡ method_of flags → WayIs flags (by m (3 + r.bits))
    unfolding method_form
    by_runs fit {m} e n =
        let k : m ≡ method_of flags = e ∙ n in
        let form : length (method_form m flags) ≡ r.bits =
        rw (e, ne_eqb r.s 0 (λ z. omega (arith, f.from)), le-leb r.s 4 f.to)
        (ap (λ (s : ℕ). length (runs_form s flags)) f.s ∙ sym f.bits) in
        record { method = k; bits = rw (value-length flags k, form); most = omega (arith, f.to); small = omega arith }

    pub way-often : r.bits ≤ d → {m : ℕ} → m ≡ r.s → 4 < count → WayIs flags (by m (3 + r.bits))
    way-often fit e h = by_runs fit e (rw (le-ltb d r.bits fit, lt-leb count 4 h) at (method-is (width_of d) refl))

    pub way-runs : r.bits ≤ d → {m w : ℕ} → m ≡ r.s → count ≤ 4 → w ≡ width_of d → r.bits ≤ count * w + 2
        → WayIs flags (by m (3 + r.bits))
    way-runs fit {w = w} e h we short =
        by_runs fit e (rw (le-ltb d r.bits fit, le-leb count 4 h, le-ltb (count * w + 2) r.bits short) at (method-is w we))

    pub way-listed : Below 2 flags → r.bits ≤ d → (w : ℕ) → count ≤ 4 → w ≡ width_of d → count * w + 2 < r.bits
        → WayIs flags (by 7 (3 + (count * w + 2)))
    unfolding method_form
    way-listed below fit w h we long =
        let m : 7 ≡ method_of flags =
        rw (le-ltb d r.bits fit, le-leb count 4 h, lt-ltb (count * w + 2) r.bits long) at (method-is w we) in
        let form : length (method_form 7 flags) ≡ 2 + count * w =
        rw (length-append, length-low_bits, numbers-length, places-length 0 below, size, ← ones, ← we) in
        record { method = m; bits = rw (value-length flags m, form) (omega arith); most = omega arith; small = omega arith }

-- a way that was made of what it says
pub way-told : {runs : List ℕ} {d count m bits : ℕ}
    → ((flags : List ℕ) → runs_of 0 flags ≡ runs → FlagsAre flags d count
    → WayIs flags (record { method = m; bits = bits; d = d; count = count; runs = length runs }))
    → {r : Way} → r ≡ record { method = m; bits = bits; d = d; count = count; runs = length runs } → WayFor runs d count r
way-told f e = rw e (record { way = f; places = refl; times = refl; found-runs = refl })

pub listed_small : {n w : ℕ} → n ≤ 4 → w ≤ 9 → n * w ≤ 36
listed_small h k = mul-le-mul {n₂ = 4} {m₂ = 9} h k
