-- Two texts that are the same, and a text laid at an output's start.
use Rattle.std.specs.Prelude.{ℕ, ◌≡◌, List, [], ◌∷◌, ◌++◌, Bool, true, false, cond, ◌&&◌, length, drop, eqb, leb, Option, Some, None}

-- whether two texts are the same
unfoldable pub same : List ℕ → List ℕ → Bool
same [] [] = true
same [] (y ∷ b) = false
same (x ∷ a) [] = false
same (x ∷ a) (y ∷ b) = eqb x y && same a b

-- text at the start of a lent output, and its length; where it does not fit, nothing
pub record Laid (text out out' : List ℕ) (r : Option ℕ) : Type 0 where
  pub count : r ≡ cond (leb (length text) (length out)) (Some (length text)) None
  pub lent : out' ≡ cond (leb (length text) (length out)) (text ++ drop (length text) out) out
