-- Laws of a value's places by its method.
use Prim.Native.Nat.{ℕ, ◌+◌, ◌*◌, ◌-◌, ◌^◌, ◌≤◌, ◌<◌}
use mathlib.Core.Path.{◌≡◌, refl, sym, ap, ◌∙◌}
use mathlib.Core.List.{List, [], ◌++◌, append-nil, append_assoc}
use mathlib.Core.Bool.{Bool, true, false, cond, ◌&&◌}
use native.Mathlib.Omega.{arith}
use borrow.Author.Tests.{ne_eqb, le-leb, leb-true, eqb-false}
use lib.ListN.{length, length-append}
use lib.Dec.{eqb, leb, ltb}
use Rattle.rules.specs.Bits.{low_bits}
use Rattle.rules.specs.Runs.{runs_of, rice_forms, runs_form}
use Rattle.rules.specs.Located.{width_of}
use Rattle.rules.specs.Chooses.{count_of, least_from, run_s, fewest_run_bits, places_of, numbers_form, method_of, method_form, value_form}
use Rattle.rules.proofs.Octets.{length-low_bits}
use Rattle.rules.proofs.Words.{low_bits-join}

-- a number's bits, and what follows them
pub number-then : (n v : ℕ) (b : List ℕ) {l : List ℕ} → low_bits n v ++ b ≡ l → n + length b ≡ length l
number-then n v b e = sym (length-append (low_bits n v) b ∙ ap (λ (k : ℕ). k + length b) (length-low_bits n v)) ∙ ap length e

-- runs have an S up to 4
run_s-low : (flags : List ℕ) → run_s flags ≤ 4
unfolding least_from
run_s-low flags =
    let f : ℕ → ℕ = λ s. length (runs_form s flags) in
    let a = ltb (f 2) (f 1) in
    let b = ltb (f 3) (f (cond a 2 1)) in
    go a b (ltb (f 4) (f (cond b 3 (cond a 2 1))))
  where
    go : (a b c : Bool) → cond c 4 (cond b 3 (cond a 2 1)) ≤ 4
    go a b true = omega arith
    go a true false = omega arith
    go true false false = omega arith
    go false false false = omega arith

pub record Listed (m count : ℕ) : Type 0 where
  pub seven : m ≡ 7
  pub some : 1 ≤ count
  pub few : count ≤ 4

module _ (flags : List ℕ) {m : ℕ} (method : m ≡ method_of flags) where
  value-by : {form : List ℕ} → method_form m flags ≡ form → value_form flags ≡ low_bits 3 m ++ form
  unfolding value_form
  value-by e = rw (← method, e)

  pub value-absent : m ≡ 5 → low_bits 3 5 ≡ value_form flags
  unfolding method_form
  value-absent h = let e : method_form m flags ≡ [] = rw h in sym (value-by e ∙ append-nil _ ∙ ap (low_bits 3) h)

  pub value-plain : m ≡ 0 → low_bits 3 0 ++ flags ≡ value_form flags
  unfolding method_form
  value-plain h = let e : method_form m flags ≡ flags = rw h in sym (value-by e ∙ ap (λ (k : ℕ). low_bits 3 k ++ flags) h)

  pub value-runs : (m ≡ 0 → ⊥) → m ≤ 4 → {v s : ℕ} {runs : List ℕ} → v ≡ m → s ≡ m → runs ≡ runs_of 0 flags
      → low_bits 3 v ++ rice_forms s runs ≡ value_form flags
  unfolding method_form
  value-runs n h e f g =
      let form : method_form m flags ≡ runs_form m flags = rw (ne_eqb m 0 n, le-leb m 4 h) in
      rw (e, f, g) (sym (value-by form))

  module _ {count : ℕ} (ones : count ≡ count_of (λ f. eqb f 1) flags) (n : m ≡ 5 → ⊥) (high : 4 < m) where
    pub listed : Listed m count
    unfolding method_of
    listed =
        go (eqb count 0) (ltb (length flags) (fewest_run_bits flags)) (leb count 4)
        (ltb (count * width_of (length flags) + 2) (fewest_run_bits flags))
        (eqb-false count 0) (leb-true count 4) (run_s-low flags) (rw (← ones) at method)
      where
        go : (a b c d : Bool) → (a ≡ false → count ≡ 0 → ⊥) → (c ≡ true → count ≤ 4) → {s : ℕ} → s ≤ 4
            → m ≡ cond a 5 (cond b 0 (cond (c && d) 7 s)) → Listed m count
        go true b c d f g low e = absurd (n e)
        go false true c d f g low e = absurd (omega arith)
        go false false true true f g low e = let k = f refl in record { seven = e; some = omega arith; few = g refl }
        go false false true false f g low e = absurd (omega arith)
        go false false false d f g low e = absurd (omega arith)

    pub value-listed : {w : ℕ} → w ≡ width_of (length flags)
        → low_bits 5 (28 + count - 1) ++ numbers_form w (places_of 0 flags) ≡ value_form flags
    unfolding method_form
    value-listed {w} we =
        let l = listed in
        let e : method_form m flags ≡ low_bits 2 (count - 1) ++ numbers_form w (places_of 0 flags) = rw (l.seven, ones, we) in
        let s : 28 + count - 1 ≡ 7 * 2 ^ 2 + (count - 1) = omega (arith, l.some) in
        let h : count - 1 < 2 ^ 2 = omega (arith, l.some, l.few) in
        sym (value-by e ∙ rw (l.seven, s, low_bits-join 3 2 7 (count - 1) h, append_assoc))
