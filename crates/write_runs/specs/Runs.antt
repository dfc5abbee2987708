-- Runs as an array, of flags and of three values.
use Rattle.std.specs.Prelude.{ℕ, ◌≤◌, ◌≡◌, List, length, take}
use Rattle.rules.specs.Runs.{runs_of}
use Rattle.rules.specs.Chooses.{flags_for, without}
use Rattle.write_runs.specs.declared.Found.{Found}
use Rattle.write_runs.specs.declared.Sought.{Sought}

-- an array whose first `count` are the runs of these flags
pub record RunsAre (flags : List ℕ) (count : ℕ) (runs : List ℕ) : Type 0 where
  pub says : take count runs ≡ runs_of 0 flags
  pub size : length runs ≡ 321
  pub few : count ≤ 321

-- the runs of three values, each among the places that those before it left
pub record FoundIs (v : Sought) (s : List ℕ) (r : Found) (a b c : List ℕ) : Type 0 where
  pub first : RunsAre (flags_for v.first s) r.first a
  pub second : RunsAre (flags_for v.second (without v.first s)) r.second b
  pub third : RunsAre (flags_for v.third (without v.second (without v.first s))) r.third c
