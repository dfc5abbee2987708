-- What the readers of bits answer, as the definitions' result, and how far they go.
use Rattle.std.specs.Prelude.{ℕ, ◌≤◌, ◌≡◌, Ok, Err}
use Rattle.std.specs.declared.result.Result.{Result}
use Rattle.rules.specs.declared.Refusal.{Refusal}
use Rattle.rules.specs.Reading.{Read, whole, refuse}
use Rattle.read_bits.specs.declared.Stop.{Stop}

-- a number and the next place, or the refusal and its bit
abbrev pub Outcome : Type 0
Outcome = Result (ℕ × ℕ) Stop

abbrev pub got : ℕ → ℕ → Outcome
got v next = Ok (v, next)

abbrev pub stop : Refusal → ℕ → Outcome
stop w at = Err (record { why = w; bit = at })

abbrev pub as_read : Outcome → Read ℕ
as_read (Ok p) = whole p.0 p.1
as_read (Err s) = refuse s.why s.bit

-- the number and the next place; 0 where the reading was refused
abbrev pub value_of : Outcome → ℕ
value_of (Ok p) = p.0
value_of (Err s) = 0

abbrev pub next_of : Outcome → ℕ
next_of (Ok p) = p.1
next_of (Err s) = 0

-- the answer is the definition's; the number is at most `most`, and the next place at most `far`
pub record Reads (found : Read ℕ) (most far : ℕ) (r : Outcome) : Type 0 where
  pub says : as_read r ≡ found
  pub value : value_of r ≤ most
  pub next : next_of r ≤ far
