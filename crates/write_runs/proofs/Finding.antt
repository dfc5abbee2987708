-- Laws of runs.
use Prim.Native.Nat.{ℕ, zero, suc, ◌+◌}
use mathlib.Core.Path.{◌≡◌, refl}
use mathlib.Core.List.{List, ◌∷◌}
use Rattle.rules.specs.Runs.{runs_of}

-- a place of the common kind, and one of the other, whatever is open
pub runs-common : (c : ℕ) (l : List ℕ) → runs_of c (0 ∷ l) ≡ runs_of (c + 1) l
unfolding runs_of
runs-common zero l = refl
runs-common (suc c) l = refl

pub runs_other : (c f : ℕ) (l : List ℕ) → runs_of c (suc f ∷ l) ≡ c ∷ runs_of 0 l
unfolding runs_of
runs_other zero f l = refl
runs_other (suc c) f l = refl
