-- Document 02, R-6: the greetings of a block, "in order of start", and the octets held.
use Rattle.std.specs.Prelude.{ℕ, ◌+◌, List, [], ◌∷◌, take, drop}
use Rattle.store_rows.specs.declared.rows.Row.{Row}

abbrev pub row_of : ℕ → ℕ → ℕ → Row
row_of number start octets = record { number = number; start = start; octets = octets }

-- the octets of a greeting
abbrev pub greeting : List ℕ → Row → List ℕ
greeting b r = take r.octets (drop r.start b)

-- "the octets held"
unfoldable pub held : List Row → ℕ
held [] = 0
held (r ∷ rs) = r.octets + held rs

-- what the greetings are, wherever they lie: numbers and octets
pub record Kept : Type 0 where
  pub number : ℕ
  pub octets : List ℕ

unfoldable pub contents : List ℕ → List Row → List Kept
contents b [] = []
contents b (r ∷ rs) = record { number = r.number; octets = greeting b r } ∷ contents b rs
