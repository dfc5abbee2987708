-- Document 02, R-9, of every store that calls have left: "The result is the one that a whole walk gives." "Refusals, in order: NUMBER,
-- ABSENT, BEYOND (21) if the sample number isn't below the greeting's samples." TABLE and BAD are not among them.
use Rattle.std.specs.Prelude.{ℕ, ◌≤◌, ◌<◌, ◌≡◌, List, true, false}
use Rattle.store_rows.specs.Limits.{is_number}
use Rattle.store_rows.specs.Rows.{contents}
use Rattle.store_rows.specs.Finding.{absent}
use Rattle.store_greeting.specs.Bad.{is_bad}
use Rattle.store_greeting.specs.Marks.{note_of}
use Rattle.store_jump.specs.declared.jumping.Refusal.TheVariants.{Number, Absent, Beyond}
use Rattle.store_jump.specs.Jump.{Answer}
use Rattle.std.specs.Prelude.{Err}
use Rattle.store_jump.specs.Calls.{jump_of}
use Rattle.store_jump.specs.Whole.{Named}
use Rattle.store_promises.specs.Told.{Store, rows_in, notes_for}
use Rattle.store_promises.specs.Kept.{here, look_up, noted, note_under}

-- the greeting of a number, as the store keeps it: its octets, which the walk by its law accepts, and its note, which is what that walk
-- gives
pub record There (s : Store) (x : ℕ) : Type 0 where
  pub law : ℕ
  pub octets : List ℕ
  pub reads : look_up x (contents s.block (rows_in s)) ≡ here octets
  pub knows : note_under x (rows_in s) (notes_for s) ≡ noted (note_of law octets)
  pub good : is_bad law octets ≡ false

-- "the greeting's samples", by the walk
abbrev pub samples_in : {s : Store} {x : ℕ} → There s x → ℕ
samples_in g = (note_of g.law g.octets).samples

abbrev pub jump_into : Store → ℕ → ℕ → Answer
jump_into s x sample = jump_of s.block s.table x sample

-- the answers there are, and when
pub data Jumped (s : Store) (x sample : ℕ) : Answer → Type 0 where
  unnumbered : is_number x ≡ false → Jumped s x sample (Err Number)
  unheld : is_number x ≡ true → absent x (rows_in s) ≡ true → Jumped s x sample (Err Absent)
  beyond : is_number x ≡ true → (g : There s x) → samples_in g ≤ sample → Jumped s x sample (Err Beyond)
  within : is_number x ≡ true → (g : There s x) → sample < samples_in g → {r : Answer} → Named g.law g.octets sample r
      → Jumped s x sample r
