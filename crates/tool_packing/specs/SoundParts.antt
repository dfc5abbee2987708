-- A sound in parts, as the tool reads it.
use Rattle.std.specs.Prelude.{ℕ, Bool, false, cond, eqb}
use Rattle.rules.specs.Refusals.{Ending}
use Rattle.std.specs.Prelude.{Ok, Err}
use Rattle.rules.specs.Refusals.{number_of}

-- the octets of a part: a multiple of every frame length, and of 40
abbrev pub part_size : ℕ
part_size = 61440

-- a part that is full may have more after it; after a refusal nothing matters
abbrev pub goes_on : Ending → ℕ → Bool
goes_on (Ok _) count = eqb count part_size
goes_on (Err why) count = false

-- the room is the longest stream, so ROOM (4) is LONG (13) here
abbrev pub number_for : Ending → ℕ
number_for end = cond (eqb (number_of end) 4) 13 (number_of end)
