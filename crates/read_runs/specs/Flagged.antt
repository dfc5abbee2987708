-- What the readers of flags leave in the lent cells, and answer: a cell for each of D flags, and the number of ones.
use Rattle.std.specs.Prelude.{ℕ, ◌+◌, ◌≤◌, ◌<◌, ◌≡◌, List, ◌++◌, map, cond, length, get_or, take, drop, eqb, ltb}
use Rattle.rules.specs.declared.Refusal.TheVariants.{Run}
use Rattle.rules.specs.Reading.{Read, whole, refuse, Reader, ◌>>=◌, give, fail, here}
use Rattle.rules.specs.Runs.{rice}
use Rattle.rules.specs.Chooses.{count_of}
use Rattle.read_bits.specs.Outcomes.{Outcome, got, stop, next_of}

-- how many flags are 1
abbrev pub marked : List ℕ → ℕ
marked flags = count_of (λ f. eqb f 1) flags

-- the cell of a flag: a 1 is the other kind
abbrev pub kind_of : ℕ → ℕ → ℕ → ℕ
kind_of common other f = cond (eqb f 1) other common

abbrev pub kinds : ℕ → ℕ → List ℕ → List ℕ
kinds common other flags = map (kind_of common other) flags

-- a run over the places left: "a larger v is RUN, judged when v is whole"
unfoldable pub one_run : ℕ → ℕ → ℕ → Reader ℕ
one_run n s left = do
  start ← here
  v ← rice n s
  cond (ltb left v) (fail Run start) (give v)

-- xs put into cells from a place on
pub record Put (old : List ℕ) (from : ℕ) (xs new : List ℕ) : Type 0 where
  pub made : new ≡ take from old ++ (xs ++ drop (from + length xs) old)

-- the number of ones and the next place, or the refusal and its bit
abbrev pub flags_end : Read (List ℕ) → Outcome
flags_end (whole flags next) = got (marked flags) next
flags_end (refuse w at) = stop w at

-- the first d cells are those of d flags of 0 and 1, the others as lent; a refused reading may leave any cells
abbrev pub Marks : ℕ → ℕ → ℕ → Read (List ℕ) → List ℕ → List ℕ → Type 0
Marks d common other (whole flags next) old new =
    (length flags ≡ d) × ((i : ℕ) → get_or flags i 0 < 2) × (new ≡ kinds common other flags ++ drop d old)
Marks d common other (refuse w at) old new = Unit {0}

-- the answer is the definition's, and the next place at most `far`; the cells are marked
pub record MarksCells (found : Read (List ℕ)) (d far common other : ℕ) (old new : List ℕ) (r : Outcome) : Type 0 where
  pub end : r ≡ flags_end found
  pub next : next_of r ≤ far
  pub cells : Marks d common other found old new
  pub room : length new ≡ 320
