-- "The returned value differs by at most 2^e from the given one": one proof over the constants, by the segment. The bound is reached for
-- every e, and one step below the range it fails.
use Prim.Native.Nat.{ℕ, zero, suc, ◌+◌, ◌-◌, ◌*◌, ◌/◌, ◌^◌, ◌≤◌}
use native.Mathlib.Nat.{pow-suc, mul-div_cancel}
use native.Mathlib.Numerals.{add-one}
use mathlib.Core.Path.{◌≡◌, refl, ap, ◌∙◌}
use mathlib.Core.Bool.{Bool, true, false, cond}
use native.Mathlib.Omega.{arith}
use lib.Dec.{ltb, leb→le}
use lib.IntN.{ℤ, pos, negsuc, neg_ℤ, nat_abs, ◌-ℤ◌}
use lib.Signed.{mag, ◌≤ℤ◌}
use lib.Pow.{pow_pos, pow_mono}
use borrow.Author.Tests.{ltb-true, ltb-false}
use Rattle.linear.specs.declared.Constants.{Constants}
use Rattle.linear.specs.Equations.{least_from, ceil_log2, e_of, e_for, to_pcm, from_pcm, A→PCM, μ→PCM, PCM→A, PCM→μ}
use Rattle.linear.specs.Constants.{constants_of, m_of, code_of, shrink, octet_of, level_of, grow, linear_of}
use Rattle.linear.proofs.Logs.{Digits, digits-unique}
use Rattle.linear.proofs.Segments.{e-digits, level-close, level-high}
use Rattle.linear.proofs.Sound.{Sound, sound, code_in, back}
use Rattle.linear.proofs.Paper.{e-for-is, there_and_back}

-- distances
apart_above : (a b k : ℕ) → a ≤ b + k → b ≤ a + k → nat_abs (pos a -ℤ pos b) ≤ k
apart_above a zero k g h = omega arith
apart_above a (suc b) k g h = go (ltb a (suc b)) refl
  where
    go : (t : Bool) → ltb a (suc b) ≡ t → nat_abs (cond t (negsuc (suc b - suc a)) (pos (a - suc b))) ≤ k
    go true e = let u = ltb-true a (suc b) e in omega arith
    go false e = let u = ltb-false a (suc b) e in omega arith

apart_below : (v n k : ℕ) → v ≤ suc n + k → suc n ≤ v + k → nat_abs (neg_ℤ (pos v) -ℤ negsuc n) ≤ k
apart_below zero n k g h = omega arith
apart_below (suc v) n k g h = go (ltb (suc n) (suc v)) refl
  where
    go : (t : Bool) → ltb (suc n) (suc v) ≡ t → nat_abs (cond t (negsuc (suc v - suc (suc n))) (pos (suc n - suc v))) ≤ k
    go true e = let u = ltb-true (suc n) (suc v) e in omega arith
    go false e = let u = ltb-false (suc n) (suc v) e in omega arith

in-scale : (l : Constants) (n : ℕ) → n + l.bias ≤ l.top → m_of l n ≡ n + l.bias
unfolding m_of
in-scale l n h = omega arith

near-grown : {l : Constants} → Sound l → (x : ℤ) → mag x + l.bias ≤ l.top → nat_abs (grow l (shrink l x) -ℤ x) ≤ 2 ^ e_of (m_of l (mag x))
unfolding grow shrink
near-grown {l} s (pos n) h =
    let c = code_in s n in
    let e : code_of (m_of l n) - l.step + l.step ≡ code_of (m_of l n) = omega arith in
    let k = level-close (m_of l n) in
    let i = in-scale l n h in
    rw e (apart_above (level_of (code_of (m_of l n)) - l.bias) n (2 ^ e_of (m_of l n)) (omega arith) (omega arith))
near-grown {l} s (negsuc n) h =
    let c = code_in s n in
    let e : code_of (m_of l n) - l.step + l.step ≡ code_of (m_of l n) = omega arith in
    let k = level-close (m_of l n) in
    let i = in-scale l n h in
    rw e (apart_below (level_of (code_of (m_of l n)) - l.bias) n (2 ^ e_of (m_of l n)) (omega arith) (omega arith))

pub near : {l : Constants} → Sound l → (x : ℤ) → mag x + l.bias ≤ l.top → nat_abs (linear_of l (octet_of l x) -ℤ x) ≤ 2 ^ e_of (m_of l (mag x))
near {l} s x h = rw (back s x) (near-grown s x h)

-- by 001's equations
near-paper : (law : ℕ) (x : ℤ) → mag x + (constants_of law).bias ≤ (constants_of law).top
    → nat_abs (to_pcm law (from_pcm law x) -ℤ x) ≤ 2 ^ e_for law x
near-paper law x h = rw (there_and_back law x, e-for-is law x) (near (sound law) x h)

-- a number from -k - 1 to k
in-range : (k : ℕ) (x : ℤ) → negsuc k ≤ℤ x → x ≤ℤ pos k → mag x ≤ k
in-range k (pos n) a b = leb→le n k b.le
in-range k (negsuc n) a b = leb→le n k a.le

-- "For A from -4096 to 4095"
pub a-near : (x : ℤ) → negsuc 4095 ≤ℤ x → x ≤ℤ pos 4095 → nat_abs (to_pcm 0 (from_pcm 0 x) -ℤ x) ≤ 2 ^ e_for 0 x
a-near x a b = near-paper 0 x (omega (arith, in-range 4095 x a b))

-- "and mu from -8159 to 8158"
pub mu-near : (x : ℤ) → negsuc 8158 ≤ℤ x → x ≤ℤ pos 8158 → nat_abs (to_pcm 1 (from_pcm 1 x) -ℤ x) ≤ 2 ^ e_for 1 x
mu-near x a b = near-paper 1 x (omega (arith, in-range 8158 x a b))

-- Reached for every e: the first number of the segment's cell 17, 34 2^e with the bias in it, is 2^e below its level.
digits-34 : (e : ℕ) → Digits (34 * 2 ^ e / 64) e
digits-34 zero = record { above = omega arith; below = omega arith }
digits-34 (suc e) = let p = pow_pos e in rw (pow-suc 2 e) (record { above = omega arith; below = omega arith })

e-34 : (e : ℕ) → e_of (34 * 2 ^ e) ≡ e
e-34 e = digits-unique (34 * 2 ^ e / 64) (e_of (34 * 2 ^ e)) e (e-digits (34 * 2 ^ e)) (digits-34 e)

pub record Reached (l : Constants) (e : ℕ) : Type 0 where
  pub n : ℕ
  pub inside : n + l.bias ≤ l.top
  pub segment : e_of (m_of l n) ≡ e
  pub far : linear_of l (octet_of l (pos n)) ≡ pos (n + 2 ^ e)

cell-17 : (e : ℕ) → 34 * 2 ^ e / 2 ^ (e + 1) ≡ 17
cell-17 e =
    let p = pow_pos e in
    let z : 2 ^ (e + 1) ≡ 2 * 2 ^ e = ap (λ (n : ℕ). 2 ^ n) (add-one e) ∙ pow-suc 2 e ∙ omega arith in
    let w : 34 * 2 ^ e ≡ 17 * (2 * 2 ^ e) = omega arith in
    rw (z, w) (mul-div_cancel 17 (omega arith))

level-34 : (e : ℕ) → level_of (code_of (34 * 2 ^ e)) ≡ 35 * 2 ^ e
unfolding code_of
level-34 e = rw (e-34 e, cell-17 e) (level-high e 17 (omega arith) (omega arith) ∙ omega arith)

pub reached : {l : Constants} (s : Sound l) (e : ℕ) → e ≤ s.most → Reached l e
unfolding grow shrink
reached {l} s e h =
    let p = pow_pos e in
    let g = pow_mono {i = e} {j = s.most} h in
    let n = 34 * 2 ^ e - l.bias in
    let i : n + l.bias ≤ l.top = omega arith in
    let m : m_of l n ≡ 34 * 2 ^ e = in-scale l n i ∙ omega arith in
    let c = code_in s n in
    let d : code_of (m_of l n) - l.step + l.step ≡ code_of (m_of l n) = omega arith in
    record {
      n = n;
      inside = i;
      segment = ap e_of m ∙ e-34 e;
      far = back s (pos n) ∙ rw (d, m, level-34 e) (ap pos (omega arith));
    }

-- "-4097 by 65" and "-8160 by 129": one step below the range the bound fails. Above it, 4096 and 8159 still keep to it, 4097 and 8160 fail.
abbrev pub away : ℕ → ℤ → ℕ
away law x = nat_abs (to_pcm law (from_pcm law x) -ℤ x)

pub a-sharp : (away 0 (negsuc 4096) ≡ 65) × (2 ^ e_for 0 (negsuc 4096) ≡ 64) × (away 0 (pos 4097) ≡ 65) × (2 ^ e_for 0 (pos 4097) ≡ 64)
unfolding A→PCM PCM→A e_of ceil_log2 least_from
a-sharp = (refl, refl, refl, refl)

pub mu-sharp : (away 1 (negsuc 8159) ≡ 129) × (2 ^ e_for 1 (negsuc 8159) ≡ 128) × (away 1 (pos 8160) ≡ 129) × (2 ^ e_for 1 (pos 8160) ≡ 128)
unfolding μ→PCM PCM→μ e_of ceil_log2 least_from
mu-sharp = (refl, refl, refl, refl)
