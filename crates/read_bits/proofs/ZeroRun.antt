-- The zeros of a code that begins at `at`, after k of them are read: one more, several more (zeros-skip), and how they end.
use Prim.Native.Nat.{ℕ, zero, suc, ◌+◌, ◌*◌, ◌-◌, ◌/◌, ◌≤◌, ◌<◌, max, zero-le}
use mathlib.Core.Path.{◌≡◌, sym, ◌∙◌, ap}
use mathlib.Core.List.{List}
use native.Mathlib.Omega.{arith}
use native.Mathlib.Nat.{add-zero}
use native.Mathlib.Decide.{dec_le}
use lib.ListN.{length, get_or, get_or-eq_default}
use borrow.Author.Tests.{eq-eqb, ne_eqb}
use Rattle.rules.specs.declared.Refusal.TheVariants.{Short, Run}
use Rattle.rules.specs.Bits.{bits_of}
use Rattle.rules.specs.Reading.{whole, refuse}
use Rattle.rules.specs.Runs.{zeros_from}
use Rattle.rules.proofs.Octets.{length-bits_of}
use Rattle.read_bits.specs.Outcomes.{Outcome, got, stop, Reads}
use Rattle.read_bits.specs.Windows.{Ahead}
use Rattle.read_bits.proofs.Leading.{Lead, lead_zero, lead-one}
use Rattle.read_bits.proofs.OneBit.{bit-there, bit-missing}

module _ (s : List ℕ) (at n k : ℕ) where
  pub zeros-run : n < k → zeros_from at k (n + 1 - k) (bits_of s) (at + k) ≡ refuse Run at
  unfolding zeros_from
  zeros-run h = let e : n + 1 - k ≡ 0 = omega arith in rw e

  pub zeros-short : k ≤ n → length s ≤ (at + k) / 8 → zeros_from at k (n + 1 - k) (bits_of s) (at + k) ≡ refuse Short (at + k)
  unfolding zeros_from
  zeros-short h m = let e : n + 1 - k ≡ suc (n - k) = omega arith in rw (e, bit-missing s (at + k) m)

  module _ (h : k ≤ n) (m : (at + k) / 8 < length s) where
    pub zeros-one : get_or (bits_of s) (at + k) 0 ≡ 1 → zeros_from at k (n + 1 - k) (bits_of s) (at + k) ≡ whole k (at + k + 1)
    unfolding zeros_from
    zeros-one o = let e : n + 1 - k ≡ suc (n - k) = omega arith in rw (e, bit-there s (at + k) m, eq-eqb _ 1 o)

    pub zeros-more : (get_or (bits_of s) (at + k) 0 ≡ 1 → ⊥)
        → zeros_from at k (n + 1 - k) (bits_of s) (at + k) ≡ zeros_from at (k + 1) (n + 1 - (k + 1)) (bits_of s) (at + (k + 1))
    unfolding zeros_from
    zeros-more o =
        let e : n + 1 - k ≡ suc (n + 1 - (k + 1)) = omega arith in
        let f : at + k + 1 ≡ at + (k + 1) = omega arith in
        rw (e, bit-there s (at + k) m, ne_eqb _ 1 o, f)

-- j zeros more, all there
pub zeros-skip : (s : List ℕ) (at n k j : ℕ) → k + j ≤ n + 1 → at + (k + j) ≤ 8 * length s
    → ((i : ℕ) → i < j → get_or (bits_of s) (at + k + i) 0 ≡ 0)
    → zeros_from at k (n + 1 - k) (bits_of s) (at + k) ≡ zeros_from at (k + j) (n + 1 - (k + j)) (bits_of s) (at + (k + j))
zeros-skip s at n k zero h m z = rw (add-zero k)
zeros-skip s at n k (suc j) h m z =
    let e : at + k + j ≡ at + (k + j) = omega arith in
    let f : k + j + 1 ≡ k + suc j = omega arith in
    let o : get_or (bits_of s) (at + (k + j)) 0 ≡ 0 = rw e at (z j (omega arith)) in
    zeros-skip s at n k j (omega arith) (omega arith) (λ i l. z i (omega arith))
    ∙ zeros-more s at n (k + j) (omega arith) (omega arith) (λ p. let q : ◌≡◌ {A = ℕ} 0 1 = sym o ∙ p in omega arith)
    ∙ ap (λ (x : ℕ). zeros_from at x (n + 1 - x) (bits_of s) (at + x)) f

-- a one is there
one-there : (s : List ℕ) (i : ℕ) → get_or (bits_of s) i 0 ≡ 1 → i < 8 * length s
one-there s i o = go (dec_le (8 * length s) i)
  where
    go : Dec (8 * length s ≤ i) → i < 8 * length s
    go (no p) = omega arith
    go (yes p) =
        let l : length (bits_of s) ≤ i = rw length-bits_of p in
        let q : ◌≡◌ {A = ℕ} 0 1 = sym (get_or-eq_default (bits_of s) 0 {n = i} l) ∙ o in
        absurd (omega arith)

-- what a window of 32 bits tells of the zeros, z of them being counted in it, once k are read
module _ (s : List ℕ) (at n k : ℕ) {w z : ℕ} (a : Ahead 32 (bits_of s) (at + k) w) (l : Lead 32 w z)
    (so_far : zeros_from at 0 (n + 1) (bits_of s) at ≡ zeros_from at k (n + 1 - k) (bits_of s) (at + k)) where
  abbrev Zeros-read : Outcome → Type 0
  Zeros-read r = Reads (zeros_from at 0 (n + 1) (bits_of s) at) n (at + n + 1) r

  run-read : zeros_from at k (n + 1 - k) (bits_of s) (at + k) ≡ refuse Run at → Zeros-read (stop Run at)
  run-read e = record { says = sym (so_far ∙ e); value = zero-le; next = zero-le }

  none_before : (i : ℕ) → i < z → get_or (bits_of s) (at + k + i) 0 ≡ 0
  none_before i h = let m = l.most in sym (a.same i (omega arith)) ∙ lead_zero l i h

  module _ (h : z < 32) where
    one-after : get_or (bits_of s) (at + (k + z)) 0 ≡ 1
    one-after =
        let e : at + k + z ≡ at + (k + z) = omega arith in
        ap (λ (i : ℕ). get_or (bits_of s) i 0) (sym e) ∙ sym (a.same z h) ∙ lead-one l h

    pub window-one : k + z ≤ n → Zeros-read (got (k + z) (at + k + z + 1))
    window-one m =
        let e : at + (k + z) ≡ at + k + z = omega arith in
        let t = one-there s (at + (k + z)) one-after in
        let one = zeros-skip s at n k z (omega arith) (omega arith) none_before ∙ zeros-one s at n (k + z) m (omega arith) one-after
        ∙ ap (λ (x : ℕ). whole (k + z) (x + 1)) e in
        record { says = sym (so_far ∙ one); value = m; next = omega arith }

    pub window-run : k ≤ n → n < k + z → Zeros-read (stop Run at)
    window-run m p =
        let t = one-there s (at + (k + z)) one-after in
        run-read (zeros-skip s at n k (n + 1 - k) (omega arith) (omega arith) (λ i g. none_before i (omega arith))
        ∙ zeros-run s at n (k + (n + 1 - k)) (omega arith))

  -- no one in the window
  module _ (h : 32 ≤ z) (m : k ≤ n) where
    pub window-short : {end : ℕ} → end ≡ max (at + k) (8 * length s) → length s ≤ (at + k + (n - k)) / 8 → length s ≤ (at + k + 31) / 8
        → Zeros-read (stop Short end)
    window-short {end} x p q =
        record { says = sym (so_far ∙ go (dec_le (at + k) (8 * length s))); value = zero-le; next = zero-le }
      where
        j : ℕ
        j = 8 * length s - (at + k)

        go : Dec (at + k ≤ 8 * length s) → zeros_from at k (n + 1 - k) (bits_of s) (at + k) ≡ refuse Short end
        go (no r) =
            let e : end ≡ at + k = omega arith in
            zeros-short s at n k m (omega arith) ∙ ap (λ (x : ℕ). refuse Short x) (sym e)
        go (yes r) =
            let e : end ≡ at + (k + j) = omega arith in
            zeros-skip s at n k j (omega arith) (omega arith) (λ i g. none_before i (omega arith))
            ∙ zeros-short s at n (k + j) (omega arith) (omega arith) ∙ ap (λ (x : ℕ). refuse Short x) (sym e)

    pub window-all-run : n < k + 32 → (at + n) / 8 < length s → Zeros-read (stop Run at)
    window-all-run p t =
        run-read (zeros-skip s at n k (n + 1 - k) (omega arith) (omega arith) (λ i g. none_before i (omega arith))
        ∙ zeros-run s at n (k + (n + 1 - k)) (omega arith))

    pub window_more : k + 32 ≤ n → (at + k + 31) / 8 < length s
        → zeros_from at 0 (n + 1) (bits_of s) at ≡ zeros_from at (k + 32) (n + 1 - (k + 32)) (bits_of s) (at + (k + 32))
    window_more p t = so_far ∙ zeros-skip s at n k 32 (omega arith) (omega arith) (λ i g. none_before i (omega arith))
