-- What a frame's first octets tell, step by step as the code goes: `no-tool`, `held-tool`, `six-refused`, `six-told`, `head-set`,
-- `head-short`, `headed`, `headed-tool`.
use Prim.Native.Nat.{ℕ, ◌+◌, ◌-◌, ◌≤◌, ◌<◌}
use mathlib.Core.Path.{◌≡◌, refl, subst}
use mathlib.Core.List.{List, [], ◌∷◌}
use mathlib.Core.Bool.{Bool, true, false, cond}
use native.Mathlib.Omega.{arith}
use lib.Dec.{eqb}
use lib.ListN.{length, get_or}
use borrow.Author.Tests.{eqb-true, lt-leb, le-leb}
use Rattle.rules.specs.declared.Refusal.{Refusal}
use Rattle.rules.specs.declared.Refusal.TheVariants.{Short, Set, Tool}
use Rattle.rules.specs.Tools.{holds, all_tools}
use Rattle.rules.specs.Bits.{bits_of}
use Rattle.rules.specs.Reading.{Read, whole, refuse, bit, number_from}
use Rattle.rules.specs.First.{First, tool, fractional_row, six_or_eight, first_octet, mark_at, six_not_eight}
use Rattle.rules.specs.Fractional.{first_code}
use Rattle.first_octet.specs.Answers.{tool_with}
use Rattle.read_head.specs.declared.Told.{Told}
use Rattle.read_head.specs.Heads.{FrameHead, by_tool, head_after, head_of, Heads}
use Rattle.read_bits.proofs.Window.{number-octet}

pub heads-as : {m n : Read FrameHead} {r : Told} → m ≡ n → Heads m r → Heads n r
heads-as {r = r} e t = subst (λ (m : Read FrameHead). Heads m r) e t

-- TOOL, or the tool and its samples
module _ (set t n : ℕ) (b : List ℕ) (i : ℕ) where
  pub no-tool : holds set t ≡ false → refuse (Tool t) 0 ≡ by_tool set t n b i
  no-tool h = rw h refl

  pub held-tool : holds set t ≡ true → whole (record { tool = t; samples = n }) i ≡ by_tool set t n b i
  held-tool h = rw h refl

-- tool 6 or 8, decided
module _ (set n m i : ℕ) (s : List ℕ) (e : m ≡ mark_at n + 1) where
  pub six-refused : {w : Refusal} {at : ℕ} → six_not_eight (bits_of s) m ≡ refuse w at
      → refuse w at ≡ head_after set (six_or_eight n) (bits_of s) i
  unfolding head_after
  six-refused q = rw (← e, q) refl

  pub six-told : {t k : ℕ} → six_not_eight (bits_of s) m ≡ whole t k
      → by_tool set t n (bits_of s) k ≡ head_after set (six_or_eight n) (bits_of s) i
  unfolding head_after
  six-told q = rw (← e, q) refl

no-octet : (s : List ℕ) → length s ≡ 0 → number_from 0 8 (bits_of s) 0 ≡ refuse Short 0
unfolding bits_of number_from bit
no-octet [] h = refl
no-octet (x ∷ s) h = absurd (omega arith)

-- SET, SHORT of no octets, and then what the first octet begins
module _ (s : List ℕ) (set : ℕ) where
  pub head-set : all_tools < set → refuse Set 0 ≡ head_of s set
  unfolding head_of
  head-set h = rw (lt-leb set all_tools h) refl

  module _ (g : set ≤ all_tools) where
    pub head-short : length s ≡ 0 → refuse Short 0 ≡ head_of s set
    unfolding head_of
    head-short h = rw (le-leb set all_tools g, no-octet s h) refl

    pub headed : 1 ≤ length s → get_or s 0 0 < 256 → (f : First) → f ≡ first_octet (get_or s 0 0) → head_after set f (bits_of s) 8 ≡ head_of s set
    unfolding head_of
    headed h o f e = rw (le-leb set all_tools g, number-octet s 0 refl h o, e)

-- a tool that the first octet tells whole, tool 11 too
pub headed-tool : (set o t n : ℕ) (b : List ℕ) (i : ℕ) → by_tool set t n b i ≡ head_after set (tool_with o t n) b i
unfolding head_after
headed-tool set o t n b i = go (eqb t 11) refl
  where
    go : (x : Bool) → eqb t 11 ≡ x → by_tool set t n b i ≡ head_after set (cond x (fractional_row (o - first_code n) n) (tool t n)) b i
    go true e = rw (eqb-true t 11 e) refl
    go false e = refl
