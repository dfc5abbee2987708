-- Octets that are read from an octet's first bit on are the octets that are there.
use Prim.Native.Nat.{ℕ, zero, suc, ◌+◌, ◌*◌, ◌/◌, ◌%◌, ◌≤◌, ◌<◌, max}
use mathlib.Core.Path.{◌≡◌}
use mathlib.Core.List.{List, [], ◌∷◌, ◌++◌, append_assoc, append-nil}
use native.Mathlib.Omega.{arith}
use native.Mathlib.Nat.{add-zero}
use native.Mathlib.Decide.{dec_le}
use lib.ListN.{length, get_or, take, drop}
use lib.Seq.{drop-cons}
use Rattle.rules.specs.declared.Refusal.TheVariants.{Short}
use Rattle.rules.specs.Bits.{bits_of}
use Rattle.rules.specs.Reading.{whole, refuse, octets_after}
use Rattle.read_bits.proofs.Window.{number-octet}
use Rattle.read_bits.proofs.Cut.{number_cut}

module _ (s : List ℕ) (b : (i : ℕ) → get_or s i 0 < 256) where
  pub octets-there : (n : ℕ) (done : List ℕ) (at : ℕ) → at % 8 ≡ 0 → at / 8 + n ≤ length s
      → octets_after done n (bits_of s) at ≡ whole (done ++ take n (drop (at / 8) s)) (at + 8 * n)
  unfolding octets_after
  octets-there zero done at z h = rw (append-nil, add-zero)
  octets-there (suc n) done at z h =
      let e : (at + 8) / 8 ≡ suc (at / 8) = omega arith in
      let f : at + 8 + 8 * n ≡ at + 8 * suc n = omega arith in
      let m = octets-there n (done ++ (get_or s (at / 8) 0 ∷ [])) (at + 8) (omega arith) (omega arith) in
      rw (number-octet s at z (omega arith) (b (at / 8)), drop-cons s (at / 8) 0 (omega arith)) (rw (e, f, append_assoc) at m)

  cut_step : (n : ℕ) (done : List ℕ) (at : ℕ) → at % 8 ≡ 0 → length s < at / 8 + suc n → Dec (length s ≤ at / 8)
      → ((done : List ℕ) (at : ℕ) → 0 < n → at % 8 ≡ 0 → length s < at / 8 + n
      → octets_after done n (bits_of s) at ≡ refuse Short (max at (8 * length s)))
      → octets_after done (suc n) (bits_of s) at ≡ refuse Short (max at (8 * length s))
  unfolding octets_after
  cut_step n done at z h (yes p) more = rw (number_cut s 0 8 at (omega arith) (omega arith))
  cut_step n done at z h (no p) more =
      let e : max at (8 * length s) ≡ max (at + 8) (8 * length s) = omega arith in
      rw (number-octet s at z (omega arith) (b (at / 8)), e) (more _ (at + 8) (omega arith) (omega arith) (omega arith))

  pub octets-cut : (n : ℕ) (done : List ℕ) (at : ℕ) → 0 < n → at % 8 ≡ 0 → length s < at / 8 + n
      → octets_after done n (bits_of s) at ≡ refuse Short (max at (8 * length s))
  octets-cut zero done at o z h = absurd (omega arith)
  octets-cut (suc n) done at o z h = cut_step n done at z h (dec_le (length s) (at / 8)) (λ d i. octets-cut n d i)
