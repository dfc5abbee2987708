-- How far two sounds agree: the number of octets at the start that are the same in both.
use Rattle.std.specs.Prelude.{ℕ, suc, List, [], ◌∷◌, cond, eqb}

unfoldable pub agreeing : List ℕ → List ℕ → ℕ
agreeing [] b = 0
agreeing (x ∷ a) [] = 0
agreeing (x ∷ a) (y ∷ b) = cond (eqb x y) (suc (agreeing a b)) 0
