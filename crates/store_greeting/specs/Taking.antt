-- A greeting's samples and marks, taken as its walk goes, 64 frames at a time; or BAD.
use Rattle.std.specs.Prelude.{ℕ, ◌+◌, ◌*◌, ◌≤◌, ◌≡◌, List, ◌++◌, false, cond, length, drop, set, Option, Some, None}
use Rattle.store_greeting.specs.Bad.{is_bad}
use Rattle.store_greeting.specs.declared.marks.Tally.{Tally}
use Rattle.store_greeting.specs.Marks.{Note, note_of, mark_cells}

abbrev pub counted_of : Note → Tally
counted_of n = record { samples = n.samples; marks = length n.marks }

-- BAD; or the samples, and the number of marks
unfoldable pub tally_of : ℕ → List ℕ → Option Tally
tally_of law xs = cond (is_bad law xs) None (Some (counted_of (note_of law xs)))

-- the marks stand at the start of the lent cells, the rest as lent. Where they have no room there, or it is BAD, the cells are left in any
-- state: a greeting's marks are counted, however many there are
pub record Takes (law : ℕ) (xs cells cells' : List ℕ) (r : Option Tally) : Type 0 where
  pub answer : r ≡ tally_of law xs
  pub lent :
      is_bad law xs ≡ false → 2 * length (note_of law xs).marks ≤ length cells
      → cells' ≡ mark_cells (note_of law xs).marks ++ drop (2 * length (note_of law xs).marks) cells

-- one mark more, where there is room for it
pub record Keeps (m at samples : ℕ) (cells cells' : List ℕ) : Type 0 where
  pub says : 2 * m + 2 ≤ length cells → cells' ≡ set (set cells (2 * m) at) (2 * m + 1) samples
