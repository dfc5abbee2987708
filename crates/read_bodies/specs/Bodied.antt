-- What the readers of bodies leave in the lent samples, and how the reading ended.
use Rattle.std.specs.Prelude.{ℕ, ◌≤◌, ◌≡◌, List, ◌++◌, length, drop}
use Rattle.rules.specs.Reading.{Read, whole, refuse}
use Rattle.read_bits.specs.Outcomes.{Outcome, got, stop, next_of}

-- the number of samples and the next place, or the refusal and its bit
abbrev pub end_of : Read (List ℕ) → Outcome
end_of (whole s next) = got (length s) next
end_of (refuse w at) = stop w at

-- the lent samples before and after: the definition's, then what was lent; a refused body leaves any 320
abbrev pub Leaves : Read (List ℕ) → List ℕ → List ℕ → Type 0
Leaves (whole s next) old new = (new ≡ s ++ drop (length s) old) × (length s ≤ 320)
Leaves (refuse w at) old new = length new ≡ 320

pub record FillsBody (found : Read (List ℕ)) (far : ℕ) (old new : List ℕ) (r : Outcome) : Type 0 where
  pub end : r ≡ end_of found
  pub next : next_of r ≤ far
  pub samples : Leaves found old new
