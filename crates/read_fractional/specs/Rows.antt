-- A row's digits 0 to 5 as samples.
use Rattle.std.specs.Prelude.{ℕ, List, [], ◌∷◌, map}
use Rattle.rules.specs.Samples.{sample_of}
use Rattle.rules.specs.Fractional.{value_for}

abbrev pub six : ℕ → ℕ → ℕ → List ℕ
six mask low below = map (λ d. sample_of mask (value_for low below d)) (0 ∷ 1 ∷ 2 ∷ 3 ∷ 4 ∷ 5 ∷ [])
