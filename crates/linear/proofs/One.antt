-- One sample each way, in the code's expressions.
use Prim.Native.Nat.{ℕ, ◌+◌, ◌-◌, ◌*◌, ◌/◌, ◌%◌, ◌^◌, ◌≤◌, ◌<◌}
use mathlib.Core.Path.{◌≡◌, refl}
use mathlib.Core.Bool.{◌&&◌}
use native.Mathlib.Omega.{arith}
use native.Mathlib.Nat.{mod-eq_of_lt, mul_comm}
use lib.Dec.{leb}
use lib.IntN.{ℤ, pos, negsuc, neg_ℤ}
use lib.Signed.{mag}
use lib.Bits.{bit_xor}
use borrow.Author.Tests.{leb-true, ne_eqb, le-leb, lt-leb}
use Rattle.rules.specs.Samples.{signed, sample_of}
use Rattle.rules.proofs.Tests.{all_below-at, and_left, and_right}
use Rattle.linear.specs.declared.Constants.{Constants}
use Rattle.linear.specs.Equations.{e_of, to_pcm, from_pcm}
use Rattle.linear.specs.Constants.{constants_of, m_of, code_of, shrink, octet_of, level_of, grow, linear_of}
use Rattle.linear.proofs.Segments.{cell, e-digits}
use Rattle.linear.proofs.Sound.{sound, e-most, Code, code_in}
use Rattle.linear.proofs.Paper.{to_is, from_is}

pub code_fits : {l : Constants} (law n : ℕ) {m k : ℕ} → l ≡ constants_of law → m ≡ m_of l n → k ≡ code_of m → Code l k
code_fits law n e f g = rw (g, f, e) (code_in (sound law) n)

-- the levels rise at least as 2 c + 1, and fit 13 bits and a sign
pub record Level (c v : ℕ) : Type 0 where
  pub from : 2 * c + 1 ≤ v
  pub to : v ≤ 8191

pub level-range : (c : ℕ) → c < 144 → Level c (level_of c)
unfolding level_of
level-range c h =
    let t = all_below-at (λ c. leb (2 * c + 1) (level_of c) && leb (level_of c) 8191) 144 refl c h in
    record {
      from = leb-true _ _ (and_left (leb (2 * c + 1) (level_of c)) (leb (level_of c) 8191) t);
      to = leb-true _ _ (and_right (leb (2 * c + 1) (level_of c)) (leb (level_of c) 8191) t);
    }

pub record Small (e q : ℕ) : Type 0 where
  pub e7 : e ≤ 7
  pub q32 : q < 32

pub code-small : (m : ℕ) → m < 8192 → Small (e_of m) (m / 2 ^ (e_of m + 1))
code-small m h = record { e7 = e-most m (e_of m) 7 (e-digits m) (omega arith); q32 = (cell m (e_of m) (e-digits m)).less }

pub octet-below : {l : Constants} (law : ℕ) {x : ℤ} {n m k : ℕ} → l ≡ constants_of law → x ≡ negsuc n → m ≡ m_of l (mag x) → k ≡ code_of m
    → bit_xor (k - l.step) l.mask ≡ from_pcm law x
unfolding octet_of shrink sample_of
octet-below law {x} e i f g = rw (from_is law x, g, f, i, e)

pub octet-above : {l : Constants} (law : ℕ) {x : ℤ} {n m k : ℕ} → l ≡ constants_of law → x ≡ pos n → m ≡ m_of l (mag x) → k ≡ code_of m
    → 128 + bit_xor (k - l.step) l.mask ≡ from_pcm law x
unfolding octet_of shrink sample_of
octet-above law {x} e i f g = rw (from_is law x, g, f, i, e)

pub linear-above : {l : Constants} (law : ℕ) {o v : ℕ} → l ≡ constants_of law → o < 256 → 128 ≤ o
    → v ≡ level_of (bit_xor o l.mask % 128 + l.step) → pos (v - l.bias) ≡ to_pcm law o
unfolding linear_of grow signed
linear-above law {o} e b h f = rw (to_is law o b, f, e, le-leb 128 o h)

pub linear-below : {l : Constants} (law : ℕ) {o v : ℕ} → l ≡ constants_of law → o < 256 → o < 128
    → v ≡ level_of (bit_xor o l.mask % 128 + l.step) → neg_ℤ (pos (v - l.bias)) ≡ to_pcm law o
unfolding linear_of grow signed
linear-below law {o} e b h f = rw (to_is law o b, f, e, lt-leb 128 o h)

level-up : (c : ℕ) → 16 ≤ c → level_of c ≡ (2 * (c % 16) + 33) * 2 ^ (c / 16 - 1)
unfolding level_of
level-up c g = rw (ne_eqb (c / 16) 0 (λ z. omega arith)) (mul_comm _ _)

pub level-shifted : (c : ℕ) → 16 ≤ c → c < 144 → (2 * (c % 16) + 33) * 2 ^ (c / 16 - 1) % 65536 ≡ level_of c
level-shifted c g h = rw (← (level-up c g)) (mod-eq_of_lt (omega (arith, level-range c h)))
