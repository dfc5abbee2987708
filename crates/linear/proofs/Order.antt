-- The conversion to octets keeps the order: a greater linear value never has a smaller signed number.
use Prim.Native.Nat.{ℕ, suc, ◌+◌, ◌-◌, ◌*◌, ◌/◌, ◌^◌, ◌≤◌, ◌<◌}
use native.Mathlib.Nat.{pow-suc, mul-le-mul_left}
use native.Mathlib.Decide.{ℕ_discrete}
use mathlib.Core.Path.{◌≡◌, sym, subst}
use native.Mathlib.Omega.{arith}
use lib.Pow.{pow_mono}
use lib.Dec.{T, le→leb, leb→le}
use lib.IntN.{ℤ, pos, negsuc}
use lib.Signed.{le_z, ◌≤ℤ◌}
use Rattle.rules.specs.Samples.{mask_of, signed}
use Rattle.linear.specs.declared.Constants.{Constants}
use Rattle.linear.specs.Equations.{e_of, from_pcm}
use Rattle.linear.specs.Constants.{m_of, code_of, shrink, octet_of}
use Rattle.linear.proofs.Segments.{Cell, cell, e-digits}
use Rattle.linear.proofs.Sound.{Sound, sound, mask_is, signed-octet}
use Rattle.linear.proofs.Paper.{from_is}

module _ (m m' e e' q q' : ℕ) (t : Cell m e q) (t' : Cell m' e' q') (h : m ≤ m') where
  -- in one segment
  same : e ≡ e' → q ≤ q'
  same z = go (subst (λ (k : ℕ). Cell m' k q') (sym z) t') (ℕ_discrete (q - q') 0)
    where
      go : Cell m' e q' → Dec (q - q' ≡ 0) → q ≤ q'
      go u (yes w) = omega arith
      go u (no w) =
          let k = mul-le-mul_left {m = q' + 1} {n = q} (2 ^ e) (omega arith) in
          let a = t.is in
          let b = u.is in
          let d = u.within in
          absurd (omega arith)

  -- a lower segment has smaller numbers
  falls : e' < e → ⊥
  falls g =
      let p = rw (pow-suc 2 e') at (pow_mono {i = suc e'} {j = e} g) in
      let a = mul-le-mul_left {m = q'} {n = 31} (2 ^ e') (omega (arith, t'.less)) in
      let b = mul-le-mul_left {m = 16} {n = q} (2 ^ e) (t.high (λ z. omega arith)) in
      let i = t.is in
      let j = t'.is in
      let w = t'.within in
      omega arith

  rising : 16 * e + q ≤ 16 * e' + q'
  rising = go (ℕ_discrete (e - e') 0) (ℕ_discrete (e' - e) 0)
    where
      go : Dec (e - e' ≡ 0) → Dec (e' - e ≡ 0) → 16 * e + q ≤ 16 * e' + q'
      go (yes a) (yes b) = let k = same (omega arith) in omega arith
      go (yes a) (no b) = let i = t.less in let j = t'.high (λ z. omega arith) in omega arith
      go (no a) b = absurd (falls (omega arith))

code-rises : (m m' : ℕ) → m ≤ m' → code_of m ≤ code_of m'
unfolding code_of
code-rises m m' h =
    rising m m' (e_of m) (e_of m') (m / 2 ^ (e_of m + 1)) (m' / 2 ^ (e_of m' + 1)) (cell m (e_of m) (e-digits m))
    (cell m' (e_of m') (e-digits m')) h

m-rises : (l : Constants) (n n' : ℕ) → n ≤ n' → m_of l n ≤ m_of l n'
unfolding m_of
m-rises l n n' h = omega arith

size-rises : (l : Constants) (n n' : ℕ) → n ≤ n' → code_of (m_of l n) - l.step ≤ code_of (m_of l n') - l.step
size-rises l n n' h = let k = code-rises (m_of l n) (m_of l n') (m-rises l n n' h) in omega arith

shrink-rises : (l : Constants) (x y : ℤ) → T (le_z x y) → T (le_z (shrink l x) (shrink l y))
unfolding shrink
shrink-rises l (pos a) (pos b) h = le→leb _ _ (size-rises l a b (leb→le a b h))
shrink-rises l (pos a) (negsuc b) h = absurd h
shrink-rises l (negsuc a) (pos b) h = tt
shrink-rises l (negsuc a) (negsuc b) h = le→leb _ _ (size-rises l b a (leb→le b a h))

pub keeps-order : {l : Constants} → Sound l → {x y : ℤ} → x ≤ℤ y → signed l.mask (octet_of l x) ≤ℤ signed l.mask (octet_of l y)
keeps-order {l} s {x} {y} h = record { le = rw (signed-octet s x, signed-octet s y) (shrink-rises l x y h.le) }

-- by 001's equations
pub in_order : (law : ℕ) {x y : ℤ} → x ≤ℤ y → signed (mask_of law) (from_pcm law x) ≤ℤ signed (mask_of law) (from_pcm law y)
in_order law {x} {y} h = rw (from_is law x, from_is law y, ← (mask_is law)) (keeps-order (sound law) h)
