-- What came of a sound that was written, compared with a master, or counted.
use Rattle.std.specs.Prelude.{ℕ, ◌≤◌, ◌≡◌, Bool, true, false, Result, Ok, Err}
use Rattle.tool_sound.specs.declared.sounds.Trouble.{Trouble}
use Rattle.tool_sound.specs.declared.sounds.Used.{Used}

-- nothing is wrong with the files
abbrev pub is_well : Result (Unit {0}) Trouble → Bool
is_well (Ok _) = true
is_well (Err why) = false

-- of a sound of so many octets: all of it is well where nothing is wrong
pub record UsesUpTo (size : ℕ) (r : Used) : Type 0 where
  pub most : r.good ≤ size
  pub all : is_well r.end ≡ true → r.good ≡ size
