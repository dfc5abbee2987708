-- Document 02, R-13: "Each box keeps its last eight settings"; revisions, going back, and the wipe.
use Rattle.std.specs.Prelude.{ℕ, ◌+◌, ◌-◌, List, [], ◌∷◌, ◌++◌, cond, length, drop, eqb, ltb}
use Rattle.settings.specs.declared.Settings.{Settings}
use Rattle.std.specs.Prelude.{Option, Some, None}
use Rattle.settings.specs.declared.Revision.{Revision}
use Rattle.settings.specs.declared.Refusal.{Refusal}
use Rattle.settings.specs.declared.Refusal.TheVariants.{Line, Gone, Spent}

-- what a box keeps: the last number given, and revisions, the oldest first
pub record Box : Type 0 where
  pub last : ℕ
  pub revisions : List Revision

-- "SPENT when the number would pass 4,294,967,295"
abbrev pub most_number : ℕ
most_number = 4294967295

-- "the ninth pushes out the oldest"
abbrev pub last_eight : List Revision → List Revision
last_eight l = drop (length l - 8) l

-- "Save adds a revision numbered one more than the last, from 1"
unfoldable pub added : Box → Settings → Box
added b v = record { last = b.last + 1; revisions = last_eight (b.revisions ++ (record { number = b.last + 1; values = v } ∷ [])) }

-- what a save or a going back does: a new state, or a refusal, which "changes nothing"
pub data Outcome : Type 0 where
  done : Box → Outcome
  refused : Refusal → Outcome

unfoldable pub add_to : Box → Settings → Outcome
add_to b v = cond (ltb most_number (b.last + 1)) (refused Spent) (done (added b v))

-- "LINE for text not of this form or a value out of its range"
abbrev pub save_in : Box → Option Settings → Outcome
save_in b (Some v) = add_to b v
save_in b None = refused Line

-- the values kept under a number; of two with one number the first is meant
unfoldable pub look_up : ℕ → List Revision → Option Settings
look_up n [] = None
look_up n (r ∷ rs) = cond (eqb r.number n) (Some r.values) (look_up n rs)

-- "Going back to a kept revision saves its values under a new number"; "GONE for a revision not kept"
abbrev pub back_to : Box → Option Settings → Outcome
back_to b (Some v) = add_to b v
back_to b None = refused Gone

-- "A wipe for the next tenant empties the list and leaves the numbering running."
abbrev pub wiped : Box → Box
wiped b = record { last = b.last; revisions = [] }
