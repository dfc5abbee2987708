-- Tool 6 or 8, decided bit by bit as the code does it.
use Prim.Native.Nat.{ℕ, ◌+◌, ◌*◌, ◌/◌, ◌≤◌, ◌<◌}
use mathlib.Core.Path.{◌≡◌, refl}
use mathlib.Core.Logic.{◌⊎◌, inl, inr}
use mathlib.Core.List.{List}
use lib.ListN.{length, get_or}
use lib.Dec.{eqb}
use native.Mathlib.Omega.{arith}
use borrow.Author.Tests.{eq-eqb, ne_eqb}
use Rattle.rules.specs.declared.Refusal.{Refusal}
use Rattle.rules.specs.Bits.{bits_of}
use Rattle.rules.specs.Reading.{whole, refuse, bit}
use Rattle.rules.specs.First.{six_or_eight, mark_at, six_not_eight}
use Rattle.rules.specs.Tools.{holds}
use Rattle.rules.specs.Zeros.{plus_minus}
use Rattle.rules.specs.Frame.{with_tool, after_first}
use Rattle.rules.proofs.Octets.{length-bits_of, bits_of-below}
use Rattle.rules.proofs.Gives.{Gives, gives-give, gives-bit, gives-bind, gives-cond}
use Rattle.read_bits.proofs.OneBit.{bit-there}
use Rattle.read_opening.specs.Opening.{body_by}

module _ (s : List ℕ) (at : ℕ) (h : at / 8 < length s) where
  pub six-at-once : get_or (bits_of s) at 0 ≡ 1 → six_not_eight (bits_of s) at ≡ whole 6 (at + 1)
  unfolding six_not_eight
  six-at-once e = rw (bit-there s at h, eq-eqb _ 1 e)

  module _ (e : get_or (bits_of s) at 0 ≡ 1 → ⊥) where
    pub second-missing : {w : Refusal} {k : ℕ} → bit (bits_of s) (at + 1) ≡ refuse w k → six_not_eight (bits_of s) at ≡ refuse w k
    unfolding six_not_eight
    second-missing q = rw (bit-there s at h, ne_eqb _ 1 e, q)

    pub six-by-second : {v j : ℕ} → bit (bits_of s) (at + 1) ≡ whole v j → v ≡ 1 → six_not_eight (bits_of s) at ≡ whole 6 j
    unfolding six_not_eight
    six-by-second {v} q f = rw (bit-there s at h, ne_eqb _ 1 e, q, eq-eqb v 1 f)

    pub eight : {v j : ℕ} → bit (bits_of s) (at + 1) ≡ whole v j → (v ≡ 1 → ⊥) → six_not_eight (bits_of s) at ≡ whole 8 j
    unfolding six_not_eight
    eight {v} q f = rw (bit-there s at h, ne_eqb _ 1 e, q, ne_eqb v 1 f)

-- it is one of the two
gives-six : Gives six_not_eight (λ t. (t ≡ 6) ⊎ (t ≡ 8))
unfolding six_not_eight
gives-six =
    gives-bind gives-bit (λ a g. gives-cond (eqb a 1) (λ e. gives-give 6 (inl refl)) (λ e.
    gives-bind gives-bit (λ b h. gives-cond (eqb b 1) (λ f. gives-give 6 (inl refl)) (λ f. gives-give 8 (inr refl)))))

either : (s : List ℕ) (at : ℕ) {t k : ℕ} → at ≤ 8 * length s → six_not_eight (bits_of s) at ≡ whole t k → (t ≡ 6) ⊎ (t ≡ 8)
either s at h q = (gives-six.on (bits_of-below s) (rw length-bits_of h) q).2

pub at-least-six : (s : List ℕ) (at : ℕ) {t k : ℕ} → at ≤ 8 * length s → six_not_eight (bits_of s) at ≡ whole t k → 6 ≤ t
at-least-six s at {t} h q = go (either s at h q)
  where
    go : (t ≡ 6) ⊎ (t ≡ 8) → 6 ≤ t
    go (inl e) = omega arith
    go (inr e) = omega arith

-- tool 6 has its body, and tool 8 is in no set
marked-body : (mask set room n mark : ℕ) {t : ℕ} → (t ≡ 6) ⊎ (t ≡ 8) → (b : List ℕ) (i : ℕ)
    → with_tool set room t n (body_by mask t n mark) b i ≡ with_tool set room t n (plus_minus mask n mark) b i
unfolding body_by with_tool holds
marked-body mask set room n mark (inl e) b i = rw e refl
marked-body mask set room n mark (inr e) b i = rw e refl

-- a frame of tool 6 or 8: the mark, then the tool
module _ (s : List ℕ) (n m : ℕ) (e : m ≡ mark_at n) (h : m / 8 < length s) where
  pub six-refused : {w : Refusal} {at : ℕ} → six_not_eight (bits_of s) (m + 1) ≡ refuse w at
      → (mask set room i : ℕ) → refuse w at ≡ after_first mask set room (six_or_eight n) (bits_of s) i
  unfolding after_first
  six-refused q mask set room i = rw (← e, bit-there s m h, q)

  pub six-decided : {t k : ℕ} (mark : ℕ) → mark ≡ get_or (bits_of s) m 0 → six_not_eight (bits_of s) (m + 1) ≡ whole t k
      → (mask set room i : ℕ) → with_tool set room t n (body_by mask t n mark) (bits_of s) (m + 1)
      ≡ after_first mask set room (six_or_eight n) (bits_of s) i
  unfolding after_first
  six-decided mark f q mask set room i =
      rw (f, ← e, bit-there s m h, q)
      (marked-body mask set room n (get_or (bits_of s) m 0) (either s (m + 1) (omega arith) q) (bits_of s) (m + 1))
