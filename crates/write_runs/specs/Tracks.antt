-- Runs as they are found, a 1 at a time.
use Rattle.std.specs.Prelude.{ℕ, ◌+◌, ◌-◌, ◌≤◌, ◌≡◌, List, ◌++◌, cond, length, take, set, eqb}
use Rattle.rules.specs.Runs.{runs_of}
use Rattle.rules.specs.Chooses.{flags_for, without}
use Rattle.write_runs.specs.declared.Track.{Track}
use Rattle.write_runs.specs.declared.Tracks.{Tracks}
use Rattle.write_runs.specs.declared.Sought.{Sought}

-- the runs of the flags before a place: those that have ended, and the one that is open
pub record TrackIs (done runs : List ℕ) (t : Track) (p : ℕ) : Type 0 where
  pub says : (rest : List ℕ) → take t.count runs ++ runs_of (p - t.start) rest ≡ runs_of 0 (done ++ rest)
  pub size : length runs ≡ 321
  pub few : t.count ≤ t.start
  pub behind : t.start ≤ p

-- the run that is open stored, and ended by a 1 at this place
pub record Closes (t : Track) (p : ℕ) (runs : List ℕ) (r : Track) (runs' : List ℕ) : Type 0 where
  pub count : r.count ≡ t.count + 1
  pub start : r.start ≡ p + 1
  pub stored : runs' ≡ set runs t.count (p - t.start)

-- the run that is open stored, and counted where it is not empty
pub record Ends (t : Track) (p : ℕ) (runs : List ℕ) (r : ℕ) (runs' : List ℕ) : Type 0 where
  pub count : r ≡ cond (eqb (p - t.start) 0) t.count (t.count + 1)
  pub stored : runs' ≡ set runs t.count (p - t.start)

-- the tracks of three values over the samples before a place, each among the places that those before it left
pub record TracksAre (v : Sought) (s : List ℕ) (p : ℕ) (t : Tracks) (a b c : List ℕ) : Type 0 where
  pub first : TrackIs (flags_for v.first s) a t.first p
  pub second : TrackIs (flags_for v.second (without v.first s)) b t.second p
  pub third : TrackIs (flags_for v.third (without v.second (without v.first s))) c t.third p

-- three values, none of them the common one
pub record Apart (v : Sought) : Type 0 where
  pub first : v.first ≡ v.plus → ⊥
  pub second : v.second ≡ v.plus → ⊥
  pub third : v.third ≡ v.plus → ⊥
