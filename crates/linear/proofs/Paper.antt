-- The definitions over the constants are 001's equations: (6-2) and (6-4) of every octet, (6-6) and (6-8) of every number.
use Prim.Native.Nat.{ℕ, zero, suc, ◌+◌, ◌-◌, ◌*◌, ◌/◌, ◌^◌, ◌≤◌, ◌<◌, min}
use mathlib.Core.Path.{◌≡◌, refl, sym, ap, ◌∙◌}
use mathlib.Core.Bool.{Bool, true, false, cond}
use native.Mathlib.Omega.{arith}
use native.Mathlib.Numerals.{add-one}
use lib.Dec.{eqb, leb}
use lib.Bits.{bit_xor, xor_lt}
use lib.IntN.{ℤ, pos, negsuc, neg_ℤ, nat_abs, ◌+ℤ◌, ◌-ℤ◌, ◌*ℤ◌}
use lib.Signed.{mag, non_neg}
use borrow.Author.Tests.{eqb-true, leb-true, leb-false, lt-ltb, le-ltb}
use Rattle.rules.specs.Samples.{signed, sample_of}
use Rattle.rules.proofs.Tests.{all_below-at}
use Rattle.linear.specs.declared.Constants.{Constants}
use Rattle.linear.specs.Equations.{A→PCM, μ→PCM, PCM→A, PCM→μ, to_pcm, from_pcm, min_z, max_z, m-A, m-μ, y-A, y-μ, e_of, m_for, e_for}
use Rattle.linear.specs.Constants.{constants_a, constants_mu, constants_of, m_of, code_of, shrink, octet_of, level_of, grow, linear_of}
use Rattle.linear.proofs.Sound.{Sound, sound, code_in, octet-small}

-- linear values in a test: the size, with the sign as its lowest bit
abbrev key : ℤ → ℕ
key (pos n) = 2 * n
key (negsuc n) = 2 * n + 1

key-told : (a b : ℤ) → key a ≡ key b → a ≡ b
key-told (pos a) (pos b) e = ap pos (omega arith)
key-told (pos a) (negsuc b) e = absurd (omega arith)
key-told (negsuc a) (pos b) e = absurd (omega arith)
key-told (negsuc a) (negsuc b) e = ap negsuc (omega arith)

-- (6-2)
A→PCM-is : (o : ℕ) → o < 256 → A→PCM o ≡ linear_of constants_a o
unfolding A→PCM linear_of grow level_of signed
A→PCM-is o h = key-told _ _ (eqb-true _ _ (all_below-at (λ o. eqb (key (A→PCM o)) (key (linear_of constants_a o))) 256 refl o h))

-- (6-4)
μ→PCM-is : (o : ℕ) → o < 256 → μ→PCM o ≡ linear_of constants_mu o
unfolding μ→PCM linear_of grow level_of signed
μ→PCM-is o h = key-told _ _ (eqb-true _ _ (all_below-at (λ o. eqb (key (μ→PCM o)) (key (linear_of constants_mu o))) 256 refl o h))

pub to_is : (law o : ℕ) → o < 256 → to_pcm law o ≡ linear_of (constants_of law) o
to_is law o h = go (eqb law 0)
  where
    go : (b : Bool) → cond b (A→PCM o) (μ→PCM o) ≡ linear_of (cond b constants_a constants_mu) o
    go true = A→PCM-is o h
    go false = μ→PCM-is o h

-- m of (6-6) and (6-8), with their min and max of signed numbers, over the constants
abbrev signed_m : Constants → ℤ → ℤ
signed_m l x =
    cond (non_neg x) (min_z (x +ℤ pos l.bias) (pos l.top)) (neg_ℤ (max_z (x -ℤ pos l.bias) (neg_ℤ (pos (l.top + 1)))) -ℤ pos 1)

less : (n b : ℕ) → negsuc n -ℤ pos b ≡ negsuc (n + b)
less n zero = rw (lt-ltb 0 (suc n) (omega arith)) (ap negsuc (omega arith))
less n (suc b) = ap negsuc (omega arith)

one_less : (k : ℕ) → pos (suc k) -ℤ pos 1 ≡ pos k
one_less k = rw (le-ltb (suc k) 1 (omega arith)) (ap pos (omega arith))

m-is : (l : Constants) (x : ℤ) → signed_m l x ≡ pos (m_of l (mag x))
unfolding m_of
m-is l (pos n) = go (leb (n + l.bias) l.top) refl
  where
    go : (t : Bool) → leb (n + l.bias) l.top ≡ t → cond t (pos (n + l.bias)) (pos l.top) ≡ pos (min (n + l.bias) l.top)
    go true e = let u = leb-true (n + l.bias) l.top e in ap pos (omega arith)
    go false e = let u = leb-false (n + l.bias) l.top e in ap pos (omega arith)
m-is l (negsuc n) = rw (less n l.bias, add-one l.top) (go (leb l.top (n + l.bias)) refl)
  where
    go : (t : Bool) → leb l.top (n + l.bias) ≡ t
        → neg_ℤ (cond t (negsuc l.top) (negsuc (n + l.bias))) -ℤ pos 1 ≡ pos (min (n + l.bias) l.top)
    go true e = let u = leb-true l.top (n + l.bias) e in one_less l.top ∙ ap pos (omega arith)
    go false e = let u = leb-false l.top (n + l.bias) e in one_less (n + l.bias) ∙ ap pos (omega arith)

m-A-is : (x : ℤ) → m-A x ≡ m_of constants_a (mag x)
m-A-is (pos n) =
    let z : n ≡ n + 0 = omega arith in
    ap (λ (k : ℕ). nat_abs (min_z (pos k) (pos 4095))) z ∙ ap nat_abs (m-is constants_a (pos n))
m-A-is (negsuc n) =
    let z : n ≡ n + 0 = omega arith in
    ap (λ (k : ℤ). nat_abs (neg_ℤ (max_z k (neg_ℤ (pos 4096))) -ℤ pos 1)) (ap negsuc z ∙ sym (less n 0))
    ∙ ap nat_abs (m-is constants_a (negsuc n))

m-μ-is : (x : ℤ) → m-μ x ≡ m_of constants_mu (mag x)
m-μ-is (pos n) = ap nat_abs (m-is constants_mu (pos n))
m-μ-is (negsuc n) = ap nat_abs (m-is constants_mu (negsuc n))

-- 2^4 (e - 1) + q
lowered : (e q : ℕ) → 16 ≤ 16 * e + q → nat_abs (pos (2 ^ 4) *ℤ (pos e -ℤ pos 1) +ℤ pos q) ≡ 16 * e + q - 16
lowered zero q h = rw (le-ltb q 16 (omega arith)) (omega arith)
lowered (suc k) q h = rw (one_less k) (omega arith)

-- y ⊕ 0x80, of 7 bits
marked : (y : ℕ) → y < 128 → bit_xor y 0x80 ≡ 128 + y
marked y h = eqb-true _ _ (all_below-at (λ y. eqb (bit_xor y 0x80) (128 + y)) 128 refl y h)

-- x of (6-6) and (6-8): y by its sign
by_sign : {l : Constants} → Sound l → (x : ℤ) {y : ℕ} → y ≡ bit_xor (code_of (m_of l (mag x)) - l.step) l.mask
    → cond (non_neg x) (bit_xor y 0x80) y ≡ octet_of l x
unfolding octet_of shrink sample_of
by_sign {l} s (pos n) e =
    let c = code_in s n in
    rw e (marked _ (xor_lt 7 (code_of (m_of l n) - l.step) l.mask (omega arith) s.mask))
by_sign s (negsuc n) e = e

-- (6-6)
PCM→A-is : (x : ℤ) → PCM→A x ≡ octet_of constants_a x
unfolding PCM→A code_of
PCM→A-is x =
    let m = m_of constants_a (mag x) in
    let z : 16 * e_of m + m / 2 ^ (e_of m + 1) ≡ 16 * e_of m + m / 2 ^ (e_of m + 1) - 0 = omega arith in
    by_sign (sound 0) x {y = y-A (m-A x)} (rw (m-A-is x) (ap (λ (k : ℕ). bit_xor k 0x55) z))

-- (6-8)
PCM→μ-is : (x : ℤ) → PCM→μ x ≡ octet_of constants_mu x
unfolding PCM→μ code_of
PCM→μ-is x =
    let c = code_in (sound 1) (mag x) in
    let m = m_of constants_mu (mag x) in
    by_sign (sound 1) x {y = y-μ (m-μ x)} (rw (m-μ-is x) (ap (λ (k : ℕ). bit_xor k 0x7F) (lowered (e_of m) (m / 2 ^ (e_of m + 1)) c.from)))

pub from_is : (law : ℕ) (x : ℤ) → from_pcm law x ≡ octet_of (constants_of law) x
from_is law x = go (eqb law 0)
  where
    go : (b : Bool) → cond b (PCM→A x) (PCM→μ x) ≡ octet_of (cond b constants_a constants_mu) x
    go true = PCM→A-is x
    go false = PCM→μ-is x

-- m and e of (6-6) and (6-8)
pub m-for-is : (law : ℕ) (x : ℤ) → m_for law x ≡ m_of (constants_of law) (mag x)
m-for-is law x = go (eqb law 0)
  where
    go : (b : Bool) → cond b (m-A x) (m-μ x) ≡ m_of (cond b constants_a constants_mu) (mag x)
    go true = m-A-is x
    go false = m-μ-is x

pub e-for-is : (law : ℕ) (x : ℤ) → e_for law x ≡ e_of (m_of (constants_of law) (mag x))
e-for-is law x = ap e_of (m-for-is law x)

-- there and back again by 001's equations
pub there_and_back : (law : ℕ) (x : ℤ) → to_pcm law (from_pcm law x) ≡ linear_of (constants_of law) (octet_of (constants_of law) x)
there_and_back law x = rw (from_is law x) (to_is law _ (octet-small (sound law) x))

pub back-and-there : (law o : ℕ) → o < 256 → from_pcm law (to_pcm law o) ≡ octet_of (constants_of law) (linear_of (constants_of law) o)
back-and-there law o h = rw (to_is law o h) (from_is law _)
