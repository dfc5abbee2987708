-- What the proofs ask of a law's constants, `Sound`, met by both laws; a code is one of 128; and the signed number of a converted value.
use Prim.Native.Nat.{ℕ, zero, suc, ◌+◌, ◌-◌, ◌*◌, ◌/◌, ◌^◌, ◌≤◌, ◌<◌, min}
use native.Mathlib.Nat.{pow-suc}
use native.Mathlib.Numerals.{add-one}
use mathlib.Core.Path.{◌≡◌, refl, ap}
use mathlib.Core.Bool.{Bool, true, false, cond}
use native.Mathlib.Omega.{arith}
use native.Mathlib.Decide.{ℕ_discrete}
use lib.Dec.{eqb, leb}
use lib.IntN.{ℤ, pos, negsuc}
use lib.Pow.{pow_mono}
use borrow.Author.Tests.{leb-true}
use Rattle.rules.specs.Samples.{mask_of, signed}
use Rattle.rules.proofs.Tests.{all_below, all_below-at}
use Rattle.rules.proofs.Signed.{LawMask, law-mask, InRange}
use Rattle.linear.specs.declared.Constants.{Constants}
use Rattle.linear.specs.Equations.{e_of}
use Rattle.linear.specs.Constants.{constants_a, constants_mu, constants_of, m_of, code_of, shrink, octet_of, level_of, grow, linear_of}
use Rattle.linear.proofs.Logs.{Digits}
use Rattle.linear.proofs.Segments.{Cell, cell, e-digits}

-- `most` is the greatest e
pub record Sound (l : Constants) : Type 0 where
  pub masks : LawMask l.mask
  pub mask : l.mask < 128
  pub most : ℕ
  pub clip : l.top < 64 * 2 ^ most
  pub top : l.top < 8192
  pub room : 16 * most + 32 ≤ l.step + 128
  pub low : 2 * l.step ≤ l.bias
  pub first : l.bias ≤ 2 * l.step + 1
  pub few : l.step ≤ 16
  pub under : l.bias ≤ l.top
  pub full : 34 * 2 ^ most ≤ l.top
  pub levels : (y : ℕ) → y < 128 → level_of (y + l.step) ≤ l.top

reaches : (l : Constants) → all_below (λ y. leb (level_of (y + l.step)) l.top) 128 ≡ true → (y : ℕ) → y < 128
    → level_of (y + l.step) ≤ l.top
reaches l t y h = leb-true _ _ (all_below-at (λ y. leb (level_of (y + l.step)) l.top) 128 t y h)

pub sound : (law : ℕ) → Sound (constants_of law)
unfolding level_of
sound law = go (eqb law 0) (law-mask law)
  where
    go : (b : Bool) → LawMask (cond b 0x55 0x7F) → Sound (cond b constants_a constants_mu)
    go true k =
        record {
          masks = k;
          mask = omega arith;
          most = 6;
          clip = omega arith;
          top = omega arith;
          room = omega arith;
          low = omega arith;
          first = omega arith;
          few = omega arith;
          under = omega arith;
          full = omega arith;
          levels = reaches constants_a refl;
        }
    go false k =
        record {
          masks = k;
          mask = omega arith;
          most = 7;
          clip = omega arith;
          top = omega arith;
          room = omega arith;
          low = omega arith;
          first = omega arith;
          few = omega arith;
          under = omega arith;
          full = omega arith;
          levels = reaches constants_mu refl;
        }

pub mask_is : (law : ℕ) → (constants_of law).mask ≡ mask_of law
mask_is law = go (eqb law 0)
  where
    go : (b : Bool) → (cond b constants_a constants_mu).mask ≡ cond b 0x55 0x7F
    go true = refl
    go false = refl

pub sound-as : {l : Constants} (law : ℕ) → l ≡ constants_of law → Sound l
sound-as law e = rw e (sound law)

pub m-top : (l : Constants) (n : ℕ) → m_of l n ≤ l.top
unfolding m_of
m-top l n = omega arith

-- a code is one of 128, from the law's first
pub record Code (l : Constants) (c : ℕ) : Type 0 where
  pub from : l.step ≤ c
  pub to : c < l.step + 128

pub e-most : (m e most : ℕ) → Digits (m / 64) e → m < 64 * 2 ^ most → e ≤ most
e-most m e most d h = go (ℕ_discrete (e - most) 0)
  where
    go : Dec (e - most ≡ 0) → e ≤ most
    go (yes z) = omega arith
    go (no z) =
        let p = rw (add-one most, pow-suc 2 most) at (pow_mono {i = most + 1} {j = e} (omega arith)) in
        let b = d.below in
        absurd (omega arith)

pub code_in : {l : Constants} → Sound l → (n : ℕ) → Code l (code_of (m_of l n))
unfolding code_of m_of
code_in {l} s n =
    let m = min (n + l.bias) l.top in
    let d = e-digits m in
    let t = cell m (e_of m) d in
    let k = e-most m (e_of m) s.most d (omega arith) in
    record { from = from m (e_of m) (m / 2 ^ (e_of m + 1)) t (omega arith); to = omega arith }
  where
    from : (m e q : ℕ) → Cell m e q → l.bias ≤ m → l.step ≤ 16 * e + q
    from m zero q t h = let i = t.is in let w = t.within in omega arith
    from m (suc j) q t h = omega arith

shrink-range : {l : Constants} → Sound l → (x : ℤ) → InRange (shrink l x)
unfolding shrink
shrink-range s (pos n) = let k = code_in s n in omega arith
shrink-range s (negsuc n) = let k = code_in s n in omega arith

-- the octet's signed number is the shrunk one
pub signed-octet : {l : Constants} → Sound l → (x : ℤ) → signed l.mask (octet_of l x) ≡ shrink l x
unfolding octet_of
signed-octet {l} s x = s.masks.forth (shrink l x) (shrink-range s x)

pub octet-small : {l : Constants} → Sound l → (x : ℤ) → octet_of l x < 256
unfolding octet_of
octet-small {l} s x = s.masks.octet (shrink l x) (shrink-range s x)

pub back : {l : Constants} → Sound l → (x : ℤ) → linear_of l (octet_of l x) ≡ grow l (shrink l x)
unfolding linear_of
back {l} s x = ap (grow l) (signed-octet s x)
