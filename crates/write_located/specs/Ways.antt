-- How a value's places would be written.
use Rattle.std.specs.Prelude.{ℕ, ◌+◌, ◌≤◌, ◌<◌, ◌≡◌, List, Bool, true, false, length, get_or, eqb}
use Rattle.rules.specs.Runs.{runs_of}
use Rattle.rules.specs.Chooses.{count_of, method_of, value_form, flags_for, without}
use Rattle.write_scan.specs.Looks.{count_is}
use Rattle.write_runs.specs.Runs.{RunsAre}
use Rattle.write_located.specs.declared.Way.{Way}
use Rattle.write_located.specs.declared.Value.{Value}
use Rattle.write_located.specs.declared.Values.{Values}
use Rattle.write_located.specs.declared.Ways.{Ways}

-- d flags, and how many of them are 1
pub record FlagsAre (flags : List ℕ) (d count : ℕ) : Type 0 where
  pub size : length flags ≡ d
  pub most : d ≤ 320
  pub bits : (i : ℕ) → get_or flags i 0 < 2
  pub ones : count ≡ count_of (λ f. eqb f 1) flags

pub record WayIs (flags : List ℕ) (r : Way) : Type 0 where
  pub method : r.method ≡ method_of flags
  pub bits : r.bits ≡ length (value_form flags)
  pub most : r.method ≤ 7
  pub small : r.bits ≤ 200000000

-- the way of whatever d flags have these runs, so many of them 1
pub record WayFor (runs : List ℕ) (d count : ℕ) (r : Way) : Type 0 where
  pub way : (flags : List ℕ) → runs_of 0 flags ≡ runs → FlagsAre flags d count → WayIs flags r
  pub places : r.d ≡ d
  pub times : r.count ≡ count
  pub found-runs : r.runs ≡ length runs

-- the same of a value that a row may lack
pub record WayIn (has : Bool) (runs : List ℕ) (d count : ℕ) (r : Way) : Type 0 where
  pub yes : has ≡ true → WayFor runs d count r
  pub no : has ≡ false → r.bits ≡ 0

-- the way of these flags, with their runs
pub record WayOf (flags : List ℕ) (r : Way) (runs : List ℕ) : Type 0 where
  pub way : WayIs flags r
  pub flagged : FlagsAre flags r.d r.count
  pub found : RunsAre flags r.runs runs

-- a value that is not plus zero, and how often it occurs
pub record ValueIs (plus : ℕ) (s : List ℕ) (v : Value) : Type 0 where
  pub times : v.times ≡ count_is v.sample s
  pub other : v.sample ≡ plus → ⊥

-- one to three values to be written in turn: they differ, and none is plus zero
pub record InTurn (plus : ℕ) (s : List ℕ) (v : Values) : Type 0 where
  pub some : 1 ≤ v.count
  pub few : v.count ≤ 3
  pub first : ValueIs plus s v.first
  pub second : 2 ≤ v.count → ValueIs plus s v.second
  pub third : 3 ≤ v.count → ValueIs plus s v.third
  pub second-new : 2 ≤ v.count → v.second.sample ≡ v.first.sample → ⊥
  pub third-new : 3 ≤ v.count → v.third.sample ≡ v.first.sample → ⊥
  pub third_last : 3 ≤ v.count → v.third.sample ≡ v.second.sample → ⊥
  pub second-other : v.second.sample ≡ plus → ⊥
  pub third-other : v.third.sample ≡ plus → ⊥
  pub room : v.first.times + v.second.times ≤ length s

-- a way for each value, among the places that those before it left; a value that is lacking has no bits
pub record WaysAre (s : List ℕ) (v : Values) (r : Ways) (a b c : List ℕ) : Type 0 where
  pub first : WayOf (flags_for v.first.sample s) r.first a
  pub second : 2 ≤ v.count → WayOf (flags_for v.second.sample (without v.first.sample s)) r.second b
  pub third : 3 ≤ v.count → WayOf (flags_for v.third.sample (without v.second.sample (without v.first.sample s))) r.third c
  pub no_second : v.count < 2 → r.second.bits ≡ 0
  pub no_third : v.count < 3 → r.third.bits ≡ 0
