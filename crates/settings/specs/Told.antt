-- A list of calls from a fresh state, and what was saved: "After any calls each kept revision is what was saved under its number."
use Rattle.std.specs.Prelude.{ℕ, ◌+◌, List, [], ◌∷◌, ◌++◌, cond, replicate, ltb}
use Rattle.settings.specs.declared.Settings.{Settings}
use Rattle.std.specs.Prelude.{Option, Some, None}
use Rattle.settings.specs.declared.Revision.{Revision}
use Rattle.settings.specs.Lines.{settings_in}
use Rattle.settings.specs.Revisions.{Box, most_number, save_in, look_up, back_to, wiped}
use Rattle.settings.specs.State.{box_of, laid}
use Rattle.settings.specs.Calls.{cells_after}

-- the calls that may change the 41 numbers
pub data Call : Type 0 where
  saving : List ℕ → Call
  going_back : ℕ → Call
  wiping : Call

-- the numbers after a call
abbrev pub cells_on : Call → List ℕ → List ℕ
cells_on (saving text) cells = cells_after (save_in (box_of cells) (settings_in text)) cells
cells_on (going_back n) cells = cells_after (back_to (box_of cells) (look_up n (box_of cells).revisions)) cells
cells_on wiping cells = laid (wiped (box_of cells))

-- the values that a call saves, if it does
abbrev pub wanted : Call → List ℕ → Option Settings
wanted (saving text) cells = settings_in text
wanted (going_back n) cells = look_up n (box_of cells).revisions
wanted wiping cells = None

-- and the revision that it adds, if the number does not pass
abbrev pub new_of : Box → Option Settings → List Revision
new_of b (Some v) = cond (ltb most_number (b.last + 1)) [] (record { number = b.last + 1; values = v } ∷ [])
new_of b None = []

-- the numbers now, all revisions that were ever saved, and those saved since the last wipe
pub record Seen : Type 0 where
  pub cells : List ℕ
  pub all : List Revision
  pub since : List Revision

abbrev pub since_on : Call → List Revision → List Revision
since_on (saving text) since = since
since_on (going_back n) since = since
since_on wiping since = []

abbrev pub see : Call → Seen → Seen
see c s =
    record {
      cells = cells_on c s.cells;
      all = s.all ++ new_of (box_of s.cells) (wanted c s.cells);
      since = since_on c s.since ++ new_of (box_of s.cells) (wanted c s.cells);
    }

unfoldable pub see_all : List Call → Seen → Seen
see_all [] s = s
see_all (c ∷ cs) s = see_all cs (see c s)

-- "a fresh one all 0"
abbrev pub fresh : Seen
fresh = record { cells = replicate 41 0; all = []; since = [] }
