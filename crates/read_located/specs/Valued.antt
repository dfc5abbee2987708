-- What is answered on the way: the flags of one value, values laid over one another, and a row of values as octets.
use Rattle.std.specs.Prelude.{ℕ, ◌+◌, ◌≤◌, ◌<◌, ◌≡◌, List, [], ◌∷◌, ◌++◌, cond, false, length, get_or, take, drop, eqb}
use Rattle.std.specs.declared.option.Option.{Option}
use Rattle.std.specs.declared.option.Option.TheVariants.{Some, None}
use Rattle.rules.specs.Reading.{Read, whole, refuse, Reader, ◌>>=◌, here, number}
use Rattle.rules.specs.Located.{by_method}
use Rattle.read_bits.specs.Outcomes.{Outcome, got, stop, next_of}
use Rattle.read_located.specs.declared.Row.{Row}

-- the D flags of a value
unfoldable pub flags_of : ℕ → ℕ → Reader (List ℕ)
flags_of n d = do
  start ← here
  m ← number 3
  by_method n d start m

-- marks from place p on, put into the empty cells in turn
unfoldable pub fill_in : ℕ → List ℕ → ℕ → List ℕ → List ℕ
fill_in z marks p [] = []
fill_in z marks p (y ∷ cells) = cond (eqb y z) (get_or marks p 0) y ∷ fill_in z marks (cond (eqb y z) (p + 1) p) cells

-- the answer is the n cells and the next place, or the refusal and its bit
abbrev pub cells_end : ℕ → Read (List ℕ) → Outcome
cells_end n (whole cells next) = got n next
cells_end n (refuse w at) = stop w at

-- the first n cells are the definition's, the others as lent; a refusal may leave any cells
abbrev pub Lays : ℕ → Read (List ℕ) → List ℕ → List ℕ → Type 0
Lays n (whole cells next) old new = (length cells ≡ n) × (new ≡ cells ++ drop n old)
Lays n (refuse w at) old new = Unit {0}

pub record LaysCells (found : Read (List ℕ)) (n far : ℕ) (old new : List ℕ) (r : Outcome) : Type 0 where
  pub end : r ≡ cells_end n found
  pub next : next_of r ≤ far
  pub cells : Lays n found old new
  pub room : length new ≡ 320

-- no value is plus zero
abbrev pub Apart : ℕ → List ℕ → Type 0
Apart z [] = Unit {0}
Apart z (x ∷ xs) = (eqb x z ≡ false) × Apart z xs

-- the first of the octets are the values
pub record RowOf (xs : List ℕ) (r : Row) : Type 0 where
  pub values : take r.count r.octets ≡ xs
  pub some : 0 < r.count
  pub few : r.count ≤ 3
  pub room : length r.octets ≡ 3

-- no values, or their row
abbrev pub RowFor : List ℕ → Option Row → Type 0
RowFor xs None = xs ≡ []
RowFor xs (Some r) = RowOf xs r
