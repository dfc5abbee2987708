-- A text that is read into a lent table, in the code's steps.
use Rattle.std.specs.Prelude.{ℕ, ◌+◌, ◌≤◌, ◌≡◌, List, [], ◌∷◌, ◌++◌, length, take, drop, Option, Some, None}
use Rattle.store_rows.specs.declared.rows.Row.{Row}
use Rattle.store_rows.specs.Rows.{row_of}
use Rattle.store_rows.specs.Cells.{laid}
use Rattle.text_keyvalue.specs.Reading.{Read, whole, none}
use Rattle.store_text.specs.declared.Line.{Line}
use Rattle.store_text.specs.Noted.{Listed, rows_listed}

-- a greeting's row as its lines say it
abbrev pub line_row : Line → Row
line_row l = row_of l.number l.start l.octets

abbrev pub as_row : Option (Line × ℕ) → Read Row
as_row (Some (l, next)) = whole (line_row l) next
as_row None = none

-- a greeting's three cells, from place k on
pub record PutsRow (r : Row) (k : ℕ) (cells cells' : List ℕ) : Type 0 where
  pub says : take (k + 3) cells' ≡ take k cells ++ (r.number ∷ r.start ∷ r.octets ∷ [])
  pub rest : drop (k + 3) cells' ≡ drop (k + 3) cells

abbrev pub count_of : Read (List Row) → Option ℕ
count_of (whole rows i) = Some (length rows)
count_of none = None

-- greetings that are listed stand in the table; where they are not, it is left in any state
abbrev pub Filled : Read (List Row) → List ℕ → List ℕ → Type 0
Filled (whole rows i) cells cells' = cells' ≡ laid rows cells
Filled none cells cells' = Unit {0}

pub record Fills (found : Read (List Row)) (cells cells' : List ℕ) (r : Option ℕ) : Type 0 where
  pub count : r ≡ count_of found
  pub filled : Filled found cells cells'
  pub few : (n : ℕ) → r ≡ Some n → n ≤ 32

-- the same of R-8's lines, with the laws
unfoldable pub laws_listed : List Listed → List ℕ
laws_listed [] = []
laws_listed (x ∷ xs) = x.note.law ∷ laws_listed xs

abbrev pub count_noted : Read (List Listed) → Option ℕ
count_noted (whole xs i) = Some (length xs)
count_noted none = None

abbrev pub FilledNoted : Read (List Listed) → List ℕ → List ℕ → List ℕ → List ℕ → Type 0
FilledNoted (whole xs i) cells cells' laws laws' = (cells' ≡ laid (rows_listed xs) cells) × (laws' ≡ laws_listed xs ++ drop (length xs) laws)
FilledNoted none cells cells' laws laws' = Unit {0}

pub record FillsNoted (found : Read (List Listed)) (cells cells' laws laws' : List ℕ) (r : Option ℕ) : Type 0 where
  pub count : r ≡ count_noted found
  pub filled : FilledNoted found cells cells' laws laws'
  pub few : (n : ℕ) → r ≡ Some n → n ≤ 32
