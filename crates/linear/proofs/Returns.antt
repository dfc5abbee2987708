-- Octets return. Over the constants: an octet returns to itself, or, where its linear value is 0, as plus zero.
-- So all 256 of A return to themselves, and all of mu but 7F, which returns as FF; and so do frames.
use Prim.Native.Nat.{ℕ, zero, suc, ◌+◌, ◌-◌, ◌<◌}
use mathlib.Core.Path.{◌≡◌, refl, sym, ap, ◌∙◌}
use mathlib.Core.Bool.{Bool, true, false, cond}
use mathlib.Core.List.{List, map}
use native.Mathlib.Omega.{arith}
use lib.Dec.{eqb}
use lib.IntN.{ℤ, pos, negsuc, neg_ℤ}
use borrow.Author.Tests.{eqb-true}
use Rattle.rules.specs.Samples.{signed, sample_of, plus_zero}
use Rattle.rules.proofs.Octets.{Below, none, more}
use Rattle.rules.proofs.Signed.{InRange, signed_range}
use Rattle.rules.proofs.Tests.{all_below-at}
use Rattle.linear.specs.declared.Constants.{Constants}
use Rattle.linear.specs.Equations.{least_from, ceil_log2, e_of, to_pcm, from_pcm}
use Rattle.linear.specs.Constants.{constants_a, constants_mu, m_of, code_of, shrink, octet_of, level_of, grow, linear_of}
use Rattle.linear.proofs.Sound.{Sound, sound}
use Rattle.linear.proofs.One.{level-range}
use Rattle.linear.proofs.Paper.{back-and-there}

-- a level, and the number below it, have the code that the level is of
level-code : (c : ℕ) → c < 144 → code_of (level_of c) ≡ c
unfolding code_of e_of ceil_log2 least_from level_of
level-code c h = eqb-true _ _ (all_below-at (λ c. eqb (code_of (level_of c)) c) 144 refl c h)

under-code : (c : ℕ) → c < 144 → code_of (level_of c - 1) ≡ c
unfolding code_of e_of ceil_log2 least_from level_of
under-code c h = eqb-true _ _ (all_below-at (λ c. eqb (code_of (level_of c - 1)) c) 144 refl c h)

abbrev pub is_zero : ℤ → Bool
is_zero (pos n) = eqb n 0
is_zero (negsuc n) = false

-- m of a level, and of the number below it
m-level : {l : Constants} → Sound l → (y : ℕ) → y < 128 → m_of l (level_of (y + l.step) - l.bias) ≡ level_of (y + l.step)
unfolding m_of
m-level {l} s y h = let r = level-range (y + l.step) (omega arith) in let t = s.levels y h in omega arith

m-under : {l : Constants} → Sound l → (y k : ℕ) → y < 128 → level_of (y + l.step) - l.bias ≡ suc k → m_of l k ≡ level_of (y + l.step) - 1
unfolding m_of
m-under {l} s y k h e = let r = level-range (y + l.step) (omega arith) in let t = s.levels y h in omega arith

-- only plus zero's level is the bias
first-level : {l : Constants} → Sound l → (y : ℕ) → y < 128 → level_of (y + l.step) - l.bias ≡ 0 → y ≡ 0
first-level {l} s y h e = let r = level-range (y + l.step) (omega arith) in omega arith

shrunk : {l : Constants} → Sound l → (v : ℤ) → InRange v → shrink l (grow l v) ≡ cond (is_zero (grow l v)) (pos 0) v
unfolding shrink grow
shrunk {l} s (pos y) h = go (eqb (level_of (y + l.step) - l.bias) 0) refl
  where
    value : pos (code_of (m_of l (level_of (y + l.step) - l.bias)) - l.step) ≡ pos y
    value = rw (m-level s y h, level-code (y + l.step) (omega arith)) (ap pos (omega arith))

    go : (b : Bool) → eqb (level_of (y + l.step) - l.bias) 0 ≡ b
        → pos (code_of (m_of l (level_of (y + l.step) - l.bias)) - l.step) ≡ cond b (pos 0) (pos y)
    go true e = value ∙ ap pos (first-level s y h (eqb-true _ _ e))
    go false e = value
shrunk {l} s (negsuc y) h = go (level_of (y + l.step) - l.bias) refl
  where
    go : (v : ℕ) → level_of (y + l.step) - l.bias ≡ v → shrink l (neg_ℤ (pos v)) ≡ cond (is_zero (neg_ℤ (pos v))) (pos 0) (negsuc y)
    go zero e =
        let z = first-level s y h e in
        let a = m-level s y h in
        let b = level-code (y + l.step) (omega arith) in
        let d : code_of (m_of l 0) ≡ y + l.step = ap (λ (n : ℕ). code_of (m_of l n)) (sym e) ∙ ap code_of a ∙ b in
        rw d (ap pos (omega arith))
    go (suc k) e =
        let d : code_of (m_of l k) ≡ y + l.step = ap code_of (m-under s y k h e) ∙ under-code (y + l.step) (omega arith) in
        rw d (ap negsuc (omega arith))

pub returns : {l : Constants} → Sound l → (o : ℕ) → o < 256 → octet_of l (linear_of l o) ≡ cond (is_zero (linear_of l o)) (plus_zero l.mask) o
unfolding octet_of linear_of
returns {l} s o h = rw (shrunk s (signed l.mask o) (signed_range l.mask o)) (go (is_zero (grow l (signed l.mask o))))
  where
    go : (b : Bool) → sample_of l.mask (cond b (pos 0) (signed l.mask o)) ≡ cond b (plus_zero l.mask) o
    go true = refl
    go false = s.masks.back o h

-- "all 256 A-law octets return to themselves"
pub a-returns : (o : ℕ) → o < 256 → from_pcm 0 (to_pcm 0 o) ≡ o
unfolding linear_of grow level_of signed sample_of
a-returns o h =
    back-and-there 0 o h ∙ returns (sound 0) o h
    ∙ eqb-true _ _ (all_below-at (λ o. eqb (cond (is_zero (linear_of constants_a o)) (plus_zero 0x55) o) o) 256 refl o h)

-- "all mu-law octets but 7F, which returns as FF"
abbrev pub minus_as_plus : ℕ → ℕ
minus_as_plus o = cond (eqb o 0x7F) 0xFF o

pub mu-returns : (o : ℕ) → o < 256 → from_pcm 1 (to_pcm 1 o) ≡ minus_as_plus o
unfolding linear_of grow level_of signed sample_of
mu-returns o h =
    back-and-there 1 o h ∙ returns (sound 1) o h
    ∙ eqb-true _ _ (all_below-at (λ o. eqb (cond (is_zero (linear_of constants_mu o)) (plus_zero 0x7F) o) (minus_as_plus o)) 256 refl o h)

-- "over whole frames"
frame-returns : (law : ℕ) (f : ℕ → ℕ) → ((o : ℕ) → o < 256 → from_pcm law (to_pcm law o) ≡ f o) → {s : List ℕ} → Below 256 s
    → map (from_pcm law) (map (to_pcm law) s) ≡ map f s
frame-returns law f k none = refl
frame-returns law f k (more {x = x} {l = l} h t) = rw (k x h, frame-returns law f k t)

pub a-frame-returns : {s : List ℕ} → Below 256 s → map (from_pcm 0) (map (to_pcm 0) s) ≡ map (λ o. o) s
a-frame-returns b = frame-returns 0 (λ o. o) a-returns b

pub mu-frame-returns : {s : List ℕ} → Below 256 s → map (from_pcm 1) (map (to_pcm 1) s) ≡ map minus_as_plus s
mu-frame-returns b = frame-returns 1 minus_as_plus mu-returns b
