-- Laws of the pieces of a form.
use Prim.Native.Nat.{ℕ, zero, suc, ◌+◌, ◌*◌, ◌^◌, ◌/◌, ◌≤◌, ◌<◌}
use mathlib.Core.Path.{◌≡◌, refl, sym, ap, ◌∙◌}
use mathlib.Core.List.{List, [], ◌∷◌, ◌++◌}
use native.Mathlib.Omega.{arith}
use borrow.Author.Tests.{le-leb, lt-leb}
use lib.ListN.{length, length-append}
use Rattle.rules.specs.Bits.{low_bits}
use Rattle.rules.specs.First.{base_of, rice_code}
use Rattle.rules.proofs.Octets.{length-low_bits}
use Rattle.rules.proofs.Words.{low_bits-join}

-- the mark's three bits
marked : (k mark : ℕ) → mark < 2 → (a b : ℕ) → low_bits 3 (k + 0) ≡ a ∷ b ∷ 0 ∷ [] → low_bits 3 (k + 1) ≡ a ∷ b ∷ 1 ∷ []
    → low_bits 3 (k + mark) ≡ a ∷ b ∷ mark ∷ []
marked k zero h a b e f = e
marked k (suc zero) h a b e f = f
marked k (suc (suc m)) h a b e f = absurd (omega arith)

pub start-long : (n mark : ℕ) → mark < 2 → 240 ≤ n → {base : ℕ} → base ≡ base_of n → low_bits 7 (base / 16 * 8 + 4 + mark) ≡ rice_code n mark
unfolding low_bits
start-long n mark m h {base} e =
    let f : base / 16 * 8 + 4 + mark ≡ base / 16 * 2 ^ 3 + (4 + mark) = omega arith in
    let g : 4 + mark < 2 ^ 3 = omega arith in
    rw (le-leb 240 n h, f, low_bits-join 4 3 (base / 16) (4 + mark) g, marked 4 mark m 1 0 refl refl, e)

pub start-short : (n mark : ℕ) → mark < 2 → n < 240 → {base : ℕ} → base ≡ base_of n → low_bits 5 (base / 64 * 8 + 2 + mark) ≡ rice_code n mark
unfolding low_bits
start-short n mark m h {base} e =
    let f : base / 64 * 8 + 2 + mark ≡ base / 64 * 2 ^ 3 + (2 + mark) = omega arith in
    let g : 2 + mark < 2 ^ 3 = omega arith in
    rw (lt-leb 240 n h, f, low_bits-join 2 3 (base / 64) (2 + mark) g, marked 2 mark m 0 1 refl refl, e)

-- as many bits as the number has
pub bits-length : (n v : ℕ) {l : List ℕ} → low_bits n v ≡ l → length l ≡ n
bits-length n v e = ap length (sym e) ∙ length-low_bits n v

-- three pieces, one after the other
pub length_three : (a b c : List ℕ) → length (a ++ (b ++ c)) ≡ length a + (length b + length c)
length_three a b c = length-append a (b ++ c) ∙ ap (λ (k : ℕ). length a + k) (length-append b c)
