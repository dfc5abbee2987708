-- What is laid into the lent samples: the values of digits from a place on; and a body, read from a place on.
use Rattle.std.specs.Prelude.{ℕ, ◌+◌, ◌≡◌, List, map, length, get_or}
use Rattle.rules.specs.Bits.{bits_of}
use Rattle.rules.specs.Fractional.{Coding, groups_as, fractional}
use Rattle.read_bits.specs.Outcomes.{Outcome}
use Rattle.read_runs.specs.Flagged.{Put}
use Rattle.read_bodies.specs.Bodied.{FillsBody}

abbrev pub Lays : List ℕ → ℕ → List ℕ → List ℕ → List ℕ → Type 0
Lays old from values digits new = Put old from (map (λ d. get_or values d 0) digits) new × (length new ≡ 320)

-- n samples of these values, coded so; and those of row k
abbrev pub Body : Coding → List ℕ → ℕ → List ℕ → ℕ → List ℕ → List ℕ → Outcome → Type 0
Body c values n octets at old new o = FillsBody (groups_as values c n (bits_of octets) at) (at + 4160) old new o

abbrev pub RowBody : ℕ → ℕ → ℕ → List ℕ → ℕ → List ℕ → List ℕ → Outcome → Type 0
RowBody mask k n octets at old new o = FillsBody (fractional mask k n (bits_of octets) at) (at + 4160) old new o
