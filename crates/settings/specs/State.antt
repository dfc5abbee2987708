-- How the list of revisions lies in 41 lent numbers: the last number given, then eight rows of five, the oldest first.
-- Every content is a state: the kept revisions are the rows whose number is not 0, in their order.
use Rattle.std.specs.Prelude.{ℕ, zero, suc, ◌+◌, ◌*◌, ◌-◌, List, [], ◌∷◌, ◌++◌, cond, length, get_or, replicate, eqb}
use Rattle.settings.specs.declared.Settings.{Settings}
use Rattle.settings.specs.declared.Revision.{Revision}
use Rattle.settings.specs.Revisions.{Box}

-- the four values from a place on
abbrev pub values_at : List ℕ → ℕ → Settings
values_at cells i = record
    { law = get_or cells i 0; set = get_or cells (i + 1) 0; block = get_or cells (i + 2) 0; greeting = get_or cells (i + 3) 0 }

-- row k: a number and its four values
abbrev pub row_at : List ℕ → ℕ → Revision
row_at cells k = record { number = get_or cells (5 * k + 1) 0; values = values_at cells (5 * k + 2) }

-- n rows from row k on
unfoldable pub rows_at : List ℕ → ℕ → ℕ → List Revision
rows_at cells zero k = []
rows_at cells (suc n) k = row_at cells k ∷ rows_at cells n (k + 1)

-- those that are kept
unfoldable pub kept_of : List Revision → List Revision
kept_of [] = []
kept_of (r ∷ rs) = cond (eqb r.number 0) (kept_of rs) (r ∷ kept_of rs)

abbrev pub box_of : List ℕ → Box
box_of cells = record { last = get_or cells 0 0; revisions = kept_of (rows_at cells 8 0) }

-- and back: the rows from the first place on, the rest 0
unfoldable pub cells_of : List Revision → List ℕ
cells_of [] = []
cells_of (r ∷ rs) = r.number ∷ r.values.law ∷ r.values.set ∷ r.values.block ∷ r.values.greeting ∷ cells_of rs

abbrev pub laid : Box → List ℕ
laid b = b.last ∷ (cells_of b.revisions ++ replicate (40 - 5 * length b.revisions) 0)
