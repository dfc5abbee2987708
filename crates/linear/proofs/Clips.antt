-- Values are clipped exactly outside the law's range: inside, m is the value's size with the bias; outside it is the clip,
-- and the octet is that of the range's end.
use Prim.Native.Nat.{ℕ, ◌+◌, ◌≤◌, ◌<◌}
use mathlib.Core.Path.{◌≡◌, sym, ◌∙◌}
use native.Mathlib.Omega.{arith}
use lib.IntN.{ℤ, pos, negsuc}
use lib.Signed.{mag}
use Rattle.linear.specs.declared.Constants.{Constants}
use Rattle.linear.specs.Equations.{m_for, from_pcm}
use Rattle.linear.specs.Constants.{constants_of, m_of, shrink, octet_of}
use Rattle.linear.proofs.Paper.{m-for-is, from_is}

-- inside the range, to the number
pub kept : (law : ℕ) (x : ℤ) → mag x + (constants_of law).bias ≤ (constants_of law).top → m_for law x ≡ mag x + (constants_of law).bias
unfolding m_of
kept law x h = m-for-is law x ∙ omega arith

-- outside it, to the clip, which is another number
pub cut : (law : ℕ) (x : ℤ) → (constants_of law).top < mag x + (constants_of law).bias → m_for law x ≡ (constants_of law).top
unfolding m_of
cut law x h = m-for-is law x ∙ omega arith

pub only-outside : (law : ℕ) (x : ℤ) → m_for law x < mag x + (constants_of law).bias → (constants_of law).top < mag x + (constants_of law).bias
unfolding m_of
only-outside law x h = let e = m-for-is law x in omega arith

-- two numbers of one sign and one m have one octet
same_above : (l : Constants) (a b : ℕ) → m_of l a ≡ m_of l b → octet_of l (pos a) ≡ octet_of l (pos b)
unfolding octet_of shrink
same_above l a b e = rw e

same-below : (l : Constants) (a b : ℕ) → m_of l a ≡ m_of l b → octet_of l (negsuc a) ≡ octet_of l (negsuc b)
unfolding octet_of shrink
same-below l a b e = rw e

clip-same : (l : Constants) (a b : ℕ) → l.top ≤ a + l.bias → l.top ≤ b + l.bias → m_of l a ≡ m_of l b
unfolding m_of
clip-same l a b g h = omega arith

-- "other values are clipped as there": all from the range's ends on are the ends
pub a-high : (n : ℕ) → 4095 ≤ n → from_pcm 0 (pos n) ≡ from_pcm 0 (pos 4095)
a-high n h =
    let l = constants_of 0 in
    from_is 0 (pos n) ∙ same_above l n 4095 (clip-same l n 4095 (omega arith) (omega arith)) ∙ sym (from_is 0 (pos 4095))

pub a-low : (n : ℕ) → 4095 ≤ n → from_pcm 0 (negsuc n) ≡ from_pcm 0 (negsuc 4095)
a-low n h =
    let l = constants_of 0 in
    from_is 0 (negsuc n) ∙ same-below l n 4095 (clip-same l n 4095 (omega arith) (omega arith)) ∙ sym (from_is 0 (negsuc 4095))

pub mu-high : (n : ℕ) → 8158 ≤ n → from_pcm 1 (pos n) ≡ from_pcm 1 (pos 8158)
mu-high n h =
    let l = constants_of 1 in
    from_is 1 (pos n) ∙ same_above l n 8158 (clip-same l n 8158 (omega arith) (omega arith)) ∙ sym (from_is 1 (pos 8158))

pub mu-low : (n : ℕ) → 8158 ≤ n → from_pcm 1 (negsuc n) ≡ from_pcm 1 (negsuc 8158)
mu-low n h =
    let l = constants_of 1 in
    from_is 1 (negsuc n) ∙ same-below l n 8158 (clip-same l n 8158 (omega arith) (omega arith)) ∙ sym (from_is 1 (negsuc 8158))
