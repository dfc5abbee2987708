-- A frame of the two zeros, and what Rice would write of it.
use Rattle.std.specs.Prelude.{ℕ, ◌-◌, ◌/◌, ◌≤◌, ◌≡◌, List, map, Bool, true, cond, length}
use Rattle.rules.specs.Samples.{plus_zero, minus_zero}
use Rattle.rules.specs.First.{rice_code}
use Rattle.rules.specs.Zeros.{most_s, flag_of}
use Rattle.rules.specs.Chooses.{mark_of, best_s, rice_choice}
use Rattle.write_scan.specs.Looks.{count_is, two_zeros}
use Rattle.write_runs.specs.Runs.{RunsAre}
use Rattle.write_scan.specs.declared.row.Row.{Row}
use Rattle.write_scan.specs.Rows.{RowIs}
use Rattle.write_zeros.specs.declared.Zeros.{Zeros}

-- flags, every one turned or none
abbrev pub turns_of : Bool → List ℕ → List ℕ
turns_of turn flags = map (λ f. cond turn (1 - f) f) flags

-- a frame of the two zeros: how many there are of each, and the row of flags that are 1 at minus zero
pub record ZerosAre (mask n p m : ℕ) (row : Row) (s : List ℕ) : Type 0 where
  pub size : length s ≡ n
  pub zeros : two_zeros mask s ≡ true
  pub plus : p ≡ count_is (plus_zero mask) s
  pub minus : m ≡ count_is (minus_zero mask) s
  pub flags : RowIs (map (flag_of mask 0) s) (n / 40) row

-- the bits before it
pub record StartIs (n r : ℕ) : Type 0 where
  pub says : (mark : ℕ) → r ≡ length (rice_code n mark)
  pub small : r ≤ 7

-- what Rice writes
pub record RiceIs (mask : ℕ) (s : List ℕ) (r : Zeros) (runs : List ℕ) : Type 0 where
  pub mark : r.mark ≡ mark_of mask s
  pub best : r.s ≡ best_s mask (mark_of mask s) s
  pub to : r.s ≤ 9
  pub most : r.s ≤ most_s (length s)
  pub from : 1 ≤ r.s
  pub found : RunsAre (map (flag_of mask (mark_of mask s)) s) r.count runs
  pub bits : r.bits ≡ length (rice_choice mask s)
  pub small : r.bits ≤ 1000000000
