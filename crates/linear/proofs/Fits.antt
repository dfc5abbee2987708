-- Nothing else fits: a conversion's contract determines how the call ends and the lent output, for all inputs, refused ones too.
use Prim.Native.Nat.{ℕ}
use mathlib.Core.Path.{◌≡◌, sym, ◌∙◌}
use mathlib.Core.List.{List}
use Rattle.rules.specs.Refusals.{Ending}
use Rattle.linear.specs.Calls.{Converts}

-- `ToLinear` and `FromLinear` are `Converts` of the frame's values
pub only-converted : {A : Type 0} {law n : ℕ} {ys out o₁ o₂ : List A} {r s : Ending}
    → Converts law n ys out o₁ r → Converts law n ys out o₂ s → (r ≡ s) × (o₁ ≡ o₂)
only-converted a b = (a.end ∙ sym b.end, a.lent ∙ sym b.lent)
