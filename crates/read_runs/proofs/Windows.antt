-- Flags that are read bit by bit are read by windows: n of them are the n low bits of a number.
use Prim.Native.Nat.{ℕ, zero, suc, ◌+◌, ◌*◌, ◌^◌, ◌/◌, ◌%◌, ◌<◌}
use mathlib.Core.Path.{◌≡◌, refl, sym, ap, subst, ◌∙◌}
use mathlib.Core.List.{List, [], ◌∷◌, ◌++◌, append_assoc, append-nil}
use mathlib.Core.Bool.{Bool, true, false, cond}
use native.Mathlib.Omega.{arith}
use native.Mathlib.Nat.{zero-add, suc-add, mod-lt}
use native.Mathlib.Numerals.{add-one, one-add}
use lib.Count.{ones, ones_cat}
use lib.Dec.{eqb, ltb, lit<}
use lib.ListN.{length, get_or}
use lib.Pow.{mod-pow-add, pow_pos, shr-shr}
use Rattle.rules.specs.declared.Refusal.{Refusal}
use Rattle.rules.specs.declared.Refusal.TheVariants.{Short}
use Rattle.rules.specs.Bits.{low_bits}
use Rattle.rules.specs.Reading.{Read, whole, refuse, and_then, bit, number_from, bits_from}
use Rattle.rules.specs.Chooses.{count_of}
use Rattle.rules.proofs.Octets.{Below, below_at}
use Rattle.read_runs.specs.Flagged.{marked}

-- "the number of occurrences is the number of one bits"
one : (b : ℕ) → b < 2 → cond (eqb b 1) 1 0 ≡ ones b
unfolding ones
one zero h = refl
one (suc zero) h = refl
one (suc (suc b)) h = absurd (omega arith)

pub marked-low_bits : (n v : ℕ) → marked (low_bits n v) ≡ ones (v % 2 ^ n)
unfolding count_of low_bits ones
marked-low_bits zero v = let e : v % 1 ≡ 0 = omega arith in rw e
marked-low_bits (suc n) v =
    let b : v / 2 ^ n % 2 < 2 = omega arith in
    let r : v % 2 ^ n < 2 ^ n = mod-lt v (pow_pos n) in
    let e : v % 2 ^ suc n ≡ (v / 2 ^ n % 2) * 2 ^ n + v % 2 ^ n = ap (λ (k : ℕ). v % 2 ^ k) (sym (one-add n)) ∙ mod-pow-add v 1 n in
    rw (e, ones_cat n (v / 2 ^ n % 2) (v % 2 ^ n) r, one (v / 2 ^ n % 2) b, marked-low_bits n v)

bit-small : (bits : List ℕ) → Below 2 bits → (i : ℕ) {a j : ℕ} → bit bits i ≡ whole a j → a < 2
unfolding bit
bit-small bits b i {a} {j} e = go (ltb i (length bits)) e
  where
    go : (t : Bool) → cond t (whole (get_or bits i 0) (i + 1)) (refuse Short i) ≡ whole a j → a < 2
    go true e = let v : get_or bits i 0 ≡ a = cc in subst (λ (x : ℕ). x < 2) v (below_at b (lit< tt) i)
    go false e = let z : ◌≡◌ {A = ℕ} 0 1 = cc in absurd (omega arith)

-- a number's bits, read as flags after those in `done`; u is the number's part that was read before
pub record Window (bits : List ℕ) (n m i u v next : ℕ) : Type 0 where
  pub top : v / 2 ^ n ≡ u
  pub flags : (done : List ℕ) → bits_from done (n + m) bits i ≡ bits_from (done ++ low_bits n v) m bits next

window-step : (bits : List ℕ) → Below 2 bits → (n m i u v next : ℕ) (r : Read ℕ) → bit bits i ≡ r
    → and_then r (λ a j. number_from (2 * u + a) n bits j) ≡ whole v next
    → ((j w : ℕ) → number_from w n bits j ≡ whole v next → Window bits n m j w v next) → Window bits (suc n) m i u v next
unfolding bits_from low_bits
window-step bits b n m i u v next (refuse w at) q e more = let z : ◌≡◌ {A = ℕ} 0 1 = cc in absurd (omega arith)
window-step bits b n m i u v next (whole a j) q e more =
    let w = more j (2 * u + a) e in
    let s = bit-small bits b i q in
    let t = w.top in
    let h : v / 2 ^ suc n ≡ v / 2 ^ n / 2 = ap (λ (k : ℕ). v / 2 ^ k) (sym (add-one n)) ∙ sym (shr-shr v n 1) in
    let f : v / 2 ^ n % 2 ≡ a = omega arith in
    record {
      top = omega arith;
      flags = λ done. rw (suc-add, q, f) (w.flags (done ++ (a ∷ [])) ∙ rw append_assoc);
    }

pub window-got : (bits : List ℕ) → Below 2 bits → (n m i u : ℕ) {v next : ℕ} → number_from u n bits i ≡ whole v next
    → Window bits n m i u v next
unfolding number_from low_bits
window-got bits b zero m i u {v} {next} e =
    let p : u ≡ v = cc in
    let q : i ≡ next = cc in
    record { top = omega arith; flags = λ done. rw (zero-add, append-nil, q) }
window-got bits b (suc n) m i u {v} {next} e =
    window-step bits b n m i u v next (bit bits i) refl e (λ j w f. window-got bits b n m j w f)

refused-step : (bits : List ℕ) (n m i u : ℕ) (w : Refusal) (at : ℕ) (r : Read ℕ) → bit bits i ≡ r
    → and_then r (λ a j. number_from (2 * u + a) n bits j) ≡ refuse w at
    → ((j x : ℕ) → number_from x n bits j ≡ refuse w at → (done : List ℕ) → bits_from done (n + m) bits j ≡ refuse w at)
    → (done : List ℕ) → bits_from done (suc n + m) bits i ≡ refuse w at
unfolding bits_from
refused-step bits n m i u w at (refuse w' at') q e more done = rw (suc-add, q) (cc)
refused-step bits n m i u w at (whole a j) q e more done = rw (suc-add, q) (more j (2 * u + a) e (done ++ (a ∷ [])))

pub window-refused : (bits : List ℕ) (n m i u : ℕ) {w : Refusal} {at : ℕ} → number_from u n bits i ≡ refuse w at
    → (done : List ℕ) → bits_from done (n + m) bits i ≡ refuse w at
unfolding number_from
window-refused bits zero m i u e done = let z : ◌≡◌ {A = ℕ} 0 1 = cc in absurd (omega arith)
window-refused bits (suc n) m i u {w} {at} e done =
    refused-step bits n m i u w at (bit bits i) refl e (λ j x f. window-refused bits n m j x f) done
