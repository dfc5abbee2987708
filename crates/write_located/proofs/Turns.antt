-- Laws of values in turn, each among the places that those before it left.
use Prim.Native.Nat.{ℕ, zero, suc, ◌+◌, ◌-◌, ◌≤◌, ◌<◌}
use mathlib.Core.Path.{◌≡◌, refl, sym, ◌∙◌}
use mathlib.Core.List.{List, [], ◌∷◌}
use mathlib.Core.Bool.{Bool, true, false, cond}
use native.Mathlib.Omega.{arith}
use borrow.Author.Tests.{eqb-true, ne_eqb, le-leb, lt-leb}
use lib.ListN.{length, get_or, take, length-map}
use lib.Seq.{length-take-le}
use lib.Dec.{eqb, leb}
use Rattle.rules.specs.Chooses.{count_of, flags_for, without}
use Rattle.write_runs.specs.declared.Found.{Found}
use Rattle.write_runs.specs.declared.Sought.{Sought}
use Rattle.write_scan.specs.Looks.{count_is}
use Rattle.write_runs.specs.Runs.{RunsAre, FoundIs}
use Rattle.write_runs.proofs.Leaving.{without-count}
use Rattle.write_located.specs.declared.Way.{Way}
use Rattle.write_located.specs.declared.Values.{Values}
use Rattle.write_located.specs.declared.Ways.{Ways}
use Rattle.write_located.specs.Ways.{FlagsAre, WayFor, WayIn, WayOf, InTurn, WaysAre}

flags-count : (x : ℕ) (l : List ℕ) → count_of (λ f. eqb f 1) (flags_for x l) ≡ count_is x l
unfolding count_of
flags-count x [] = refl
flags-count x (y ∷ l) = step (eqb y x) (flags-count x l)
  where
    step : (b : Bool) → count_of (λ f. eqb f 1) (flags_for x l) ≡ count_is x l
        → cond (eqb (cond b 1 0) 1) 1 0 + count_of (λ f. eqb f 1) (flags_for x l) ≡ cond b 1 0 + count_is x l
    step true e = rw e
    step false e = rw e

flags-small : (x : ℕ) (l : List ℕ) (i : ℕ) → get_or (flags_for x l) i 0 < 2
flags-small x [] i = omega arith
flags-small x (y ∷ l) zero = step (eqb y x)
  where
    step : (b : Bool) → cond b 1 0 < 2
    step true = omega arith
    step false = omega arith
flags-small x (y ∷ l) (suc i) = flags-small x l i

-- what is taken out leaves as many of another value
count_kept : (x y : ℕ) → (y ≡ x → ⊥) → (l : List ℕ) → count_is y (without x l) ≡ count_is y l
unfolding count_of without
count_kept x y ne [] = refl
count_kept x y ne (w ∷ l) = step (eqb w x) refl (count_kept x y ne l)
  where
    step : (b : Bool) → eqb w x ≡ b → count_is y (without x l) ≡ count_is y l
        → count_is y (elim b [ true ↦ without x l | false ↦ w ∷ without x l ]) ≡ cond (eqb w y) 1 0 + count_is y l
    step true e h =
        let other : eqb w y ≡ false = ne_eqb w y (λ z. ne (sym z ∙ eqb-true w x e)) in
        rw (other, h) (omega arith)
    step false e h = rw h

-- a value's flags
flagged : {d count : ℕ} (x : ℕ) (s : List ℕ) → length s ≡ d → d ≤ 320 → count ≡ count_is x s → FlagsAre (flags_for x s) d count
flagged x s size most e =
    record { size = length-map s (λ y. cond (eqb y x) 1 0) ∙ size; most = most; bits = flags-small x s; ones = e ∙ sym (flags-count x s) }

way-with : {flags runs : List ℕ} {d count found : ℕ} {w : Way} → RunsAre flags found runs → FlagsAre flags d count
    → WayFor (take found runs) d count w → WayOf flags w runs
way-with {flags} {runs} {found = found} r f w =
    let size : length (take found runs) ≡ found = length-take-le found runs (omega (arith, r.few, r.size)) in
    record {
      way = w.way flags (sym r.says) f;
      flagged = rw (w.places, w.times) f;
      found = rw (w.found-runs ∙ size) r;
    }

-- the samples of values, to be found
abbrev pub sought : ℕ → Values → Sought
sought plus v =
    record { plus = plus; first = v.first.sample; second = v.second.sample; third = v.third.sample }

module _ {plus n : ℕ} {s a b c : List ℕ} {v : Values} {found : Found} (size : length s ≡ n) (few : n ≤ 320) (t : InTurn plus s v)
    (f : FoundIs (sought plus v) s found a b c) where
  abbrev left : List ℕ
  left = without v.first.sample s

  left-size : length left ≡ n - v.first.times
  left-size = omega (arith, without-count v.first.sample s, t.first.times)

  abbrev last : List ℕ
  last = without v.second.sample left

  second-count : 2 ≤ v.count → v.second.times ≡ count_is v.second.sample left
  second-count h = (t.second h).times ∙ sym (count_kept v.first.sample v.second.sample (t.second-new h) s)

  last-size : 2 ≤ v.count → length last ≡ n - v.first.times - v.second.times
  last-size h = omega (arith, without-count v.second.sample left, left-size, second-count h)

  pub ways-are : {r : Ways} → WayFor (take found.first a) n v.first.times r.first
      → WayIn (leb 2 v.count) (take found.second b) (n - v.first.times) v.second.times r.second
      → WayIn (leb 3 v.count) (take found.third c) (n - v.first.times - v.second.times) v.third.times r.third
      → WaysAre s v r a b c
  ways-are w₁ w₂ w₃ =
      record {
        first = way-with f.first (flagged v.first.sample s size few t.first.times) w₁;
        second = λ h. way-with f.second (flagged v.second.sample left left-size (omega arith) (second-count h))
            (w₂.yes (le-leb 2 v.count h));
        third = λ h.
            let g : 2 ≤ v.count = omega arith in
            let k : v.third.times ≡ count_is v.third.sample last =
            (t.third h).times ∙ sym (count_kept v.first.sample v.third.sample (t.third-new h) s)
            ∙ sym (count_kept v.second.sample v.third.sample (t.third_last h) left) in
            way-with f.third (flagged v.third.sample last (last-size g) (omega arith) k) (w₃.yes (le-leb 3 v.count h));
        no_second = λ h. w₂.no (lt-leb 2 v.count h);
        no_third = λ h. w₃.no (lt-leb 3 v.count h);
      }
