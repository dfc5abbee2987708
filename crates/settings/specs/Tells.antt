-- What a box's settings tell, nothing changed: a kept revision's values as they stand, and the numbers of all that are kept.
use Rattle.std.specs.Prelude.{Option, Some, None}
use Rattle.std.specs.Prelude.{ℕ, ◌-◌, List, [], ◌∷◌, ◌++◌, length, replicate}
use Rattle.settings.specs.declared.Settings.{Settings}
use Rattle.settings.specs.declared.Revision.{Revision}
use Rattle.settings.specs.declared.Refusal.TheVariants.{Gone}
use Rattle.settings.specs.Revisions.{look_up}
use Rattle.settings.specs.State.{box_of}
use Rattle.settings.specs.Calls.{refusal_number}

-- the values kept under a number, or that none are
abbrev pub get_of : List ℕ → ℕ → Option Settings
get_of cells revision = look_up revision (box_of cells).revisions

-- GONE is its one refusal
abbrev pub get_number_of : Option Settings → ℕ
get_number_of (Some v) = 0
get_number_of None = refusal_number Gone

-- "law, set, block, greeting, as they stand"; a refused call reports zeros
abbrev pub values_in : Option Settings → Settings
values_in (Some v) = v
values_in None = record { law = 0; set = 0; block = 0; greeting = 0 }

unfoldable pub numbers_of : List Revision → List ℕ
numbers_of [] = []
numbers_of (r ∷ rs) = r.number ∷ numbers_of rs

-- "numbers of the kept revisions, the oldest first, then 0": "rows whose number is not 0, in their order, closed up; a number in two rows
-- is told twice"
abbrev pub numbers_kept : List ℕ → List ℕ
numbers_kept cells = numbers_of (box_of cells).revisions ++ replicate (8 - length (box_of cells).revisions) 0
