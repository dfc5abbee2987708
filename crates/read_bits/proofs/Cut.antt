-- A number whose bits are not all there is SHORT at the first that is missing.
use Prim.Native.Nat.{ℕ, zero, suc, ◌+◌, ◌*◌, ◌/◌, ◌≤◌, ◌<◌, max}
use mathlib.Core.Path.{◌≡◌}
use mathlib.Core.List.{List}
use native.Mathlib.Omega.{arith}
use native.Mathlib.Decide.{dec_le}
use lib.ListN.{length}
use Rattle.rules.specs.declared.Refusal.TheVariants.{Short}
use Rattle.rules.specs.Bits.{bits_of}
use Rattle.rules.specs.Reading.{refuse, number_from}
use Rattle.read_bits.proofs.OneBit.{bit-there, bit-missing}

cut_step : (s : List ℕ) (v n at : ℕ) → length s < (at + suc n + 7) / 8 → Dec (length s ≤ at / 8)
    → ((v at : ℕ) → 0 < n → length s < (at + n + 7) / 8 → number_from v n (bits_of s) at ≡ refuse Short (max at (8 * length s)))
    → number_from v (suc n) (bits_of s) at ≡ refuse Short (max at (8 * length s))
unfolding number_from
cut_step s v n at h (yes p) more =
    let e : max at (8 * length s) ≡ at = omega arith in
    rw (bit-missing s at p, e)
cut_step s v n at h (no p) more =
    let e : max at (8 * length s) ≡ max (at + 1) (8 * length s) = omega arith in
    rw (bit-there s at (omega arith), e) (more _ (at + 1) (omega arith) (omega arith))

pub number_cut : (s : List ℕ) (v n at : ℕ) → 0 < n → length s < (at + n + 7) / 8
    → number_from v n (bits_of s) at ≡ refuse Short (max at (8 * length s))
number_cut s v zero at z h = absurd (omega arith)
number_cut s v (suc n) at z h = cut_step s v n at h (dec_le (length s) (at / 8)) (λ w i. number_cut s w n i)
