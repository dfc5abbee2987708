-- How far a reading of runs has come, and what reading several of them from one word says.
use Rattle.std.specs.Prelude.{ℕ, ◌+◌, ◌*◌, ◌-◌, ◌≤◌, ◌<◌, ◌≡◌, List, [], ◌++◌, cond, length, get_or, drop, replicate, leb, ltb}
use Rattle.std.specs.declared.option.Option.{Option}
use Rattle.std.specs.declared.option.Option.TheVariants.{Some, None}
use Rattle.rules.specs.declared.Refusal.TheVariants.{Run}
use Rattle.rules.specs.Bits.{bits_of}
use Rattle.rules.specs.Reading.{whole}
use Rattle.rules.specs.Runs.{rice, runs_from}
use Rattle.read_bits.specs.Outcomes.{Outcome, got, stop}
use Rattle.read_runs.specs.Flagged.{marked, kinds}
use Rattle.read_runs.specs.declared.Reach.{Reach}
use Rattle.read_runs.specs.declared.Stretch.{Stretch}

-- cells whose first are those of the flags `done`, and whose others up to d are still common
pub record Marking (d common other : ℕ) (old new done : List ℕ) : Type 0 where
  pub made : new ≡ kinds common other done ++ (replicate (d - length done) common ++ drop d old)
  pub below : (i : ℕ) → get_or done i 0 < 2
  pub within : length done ≤ d
  pub fits : d ≤ 320
  pub before : length old ≡ 320

-- `count` runs are read, and fill the first `filled` of d places
pub record Filled (bits : List ℕ) (at n s d common other : ℕ) (old cells : List ℕ) (filled count place : ℕ) : Type 0 where
  pub done : List ℕ
  pub so_far : runs_from n s d d [] bits at ≡ runs_from n s (d - count) (d - filled) done bits place
  pub marking : Marking d common other old cells done
  pub size : length done ≡ filled
  pub ones : marked done ≡ count
  pub fuel : count ≤ filled
  pub within : filled ≤ d
  pub near : place ≤ at + 330 * count

-- whatever was filled before, so much is filled now
pub record Goes_on (bits : List ℕ) (n s d other : ℕ) (old : List ℕ) (filled count place : ℕ) (new : List ℕ)
    (filled' count' place' : ℕ) : Type 0 where
  pub on : {at common : ℕ} {lent : List ℕ} → Filled bits at n s d common other lent old filled count place
      → Filled bits at n s d common other lent new filled' count' place'

-- the run at a place reaches the end of the places: `past` is where it comes to, and `size` its bits
pub record Reaches (bits : List ℕ) (n s d filled place : ℕ) (run : Reach) : Type 0 where
  pub end : d ≤ run.past
  pub from : filled ≤ run.past
  pub code : rice n s bits place ≡ whole (run.past - filled) (place + run.size)
  pub small : run.size ≤ 41

abbrev pub ReachesIf : List ℕ → ℕ → ℕ → ℕ → ℕ → ℕ → Option Reach → Type 0
ReachesIf bits n s d filled place None = Unit {0}
ReachesIf bits n s d filled place (Some run) = Reaches bits n s d filled place run

-- some runs more, each but one short of the end; and one that reaches it, if it is known
pub record ReadsSeveral (octets : List ℕ) (n s d other : ℕ) (old : List ℕ) (filled count place : ℕ) (new : List ℕ)
    (r : Stretch) : Type 0 where
  pub goes : Goes_on (bits_of octets) n s d other old filled count place new r.filled r.count r.place
  pub last : ReachesIf (bits_of octets) n s d r.filled r.place r.reach
  pub from : filled ≤ r.filled
  pub room : length new ≡ 320

-- the answer there: all places are filled, the run is too long, or "the closing sample is imagined"
abbrev pub end_of : ℕ → ℕ → ℕ → ℕ → Reach → Outcome
end_of d filled count place run = cond (leb d filled) (got count place)
    (cond (ltb d run.past) (stop Run place) (got count (place + run.size)))
