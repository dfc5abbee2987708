-- What the promises speak of: what a store reads under a number, and its note (R-8); places that are clear; greetings whose start changed;
-- places that closing up writes.
use Rattle.std.specs.Prelude.{ℕ, ◌+◌, ◌≤◌, ◌<◌, ◌≡◌, List, [], ◌∷◌, false, cond, eqb}
use Rattle.store_rows.specs.declared.rows.Row.{Row}
use Rattle.std.specs.Prelude.{Option, Some, None}
use Rattle.store_rows.specs.Rows.{Kept}
use Rattle.store_greeting.specs.Bad.{is_bad}
use Rattle.store_greeting.specs.Marks.{Note}

-- the octets kept under a number, or none
pub data Octets : Type 0 where
  here : List ℕ → Octets
  missing : Octets

unfoldable pub look_up : ℕ → List Kept → Octets
look_up x [] = missing
look_up x (k ∷ ks) = cond (eqb k.number x) (here k.octets) (look_up x ks)

-- the note of the greeting of a number, or none
pub data Known : Type 0 where
  noted : Note → Known
  unknown : Known

unfoldable pub note_under : ℕ → List Row → List Note → Known
note_under x [] notes = unknown
note_under x (r ∷ rows) [] = unknown
note_under x (r ∷ rows) (n ∷ notes) = cond (eqb r.number x) (noted n) (note_under x rows notes)

-- as many notes as greetings, and each pair is so
unfoldable pub Along : (Kept → Note → Type 0) → List Kept → List Note → Type 0
Along p [] [] = Unit {0}
Along p [] (n ∷ notes) = ⊥
Along p (k ∷ ks) [] = ⊥
Along p (k ∷ ks) (n ∷ notes) = p k n × Along p ks notes

-- none of them is one that the walk by its note's law refuses, or empty
abbrev pub IsGood : Kept → Note → Type 0
IsGood k n = is_bad n.law k.octets ≡ false

abbrev pub Good : List Kept → List Note → Type 0
Good ks notes = Along IsGood ks notes

-- no greeting has an octet from place p on, for so many octets
unfoldable pub Clear : ℕ → ℕ → List Row → Type 0
Clear p want [] = Unit {0}
Clear p want (r ∷ rows) = ((p < r.start + r.octets) → (r.start < p + want) → ⊥) × Clear p want rows

-- a greeting's start, by its number; 0 where there is none
unfoldable pub start_of : ℕ → List Row → ℕ
start_of x [] = 0
start_of x (r ∷ rows) = cond (eqb r.number x) r.start (start_of x rows)

-- "the summed lengths of those whose start changed", from the greetings before a call and those after it
unfoldable pub changed : List Row → List Row → ℕ
changed [] after = 0
changed (r ∷ rows) after = cond (eqb r.start (start_of r.number after)) 0 r.octets + changed rows after

-- closing up does not write place p: it is in no greeting's new place, but for a greeting whose start stays
unfoldable pub Spared : ℕ → ℕ → List Row → Type 0
Spared p at [] = Unit {0}
Spared p at (r ∷ rows) = ((r.start ≡ at → ⊥) → at ≤ p → p < at + r.octets → ⊥) × Spared p (at + r.octets) rows

-- nor does it where a gap was found
abbrev pub Passed : ℕ → Option (ℕ × ℕ) → List Row → Type 0
Passed p (Some (i, at)) rows = Unit {0}
Passed p None rows = Spared p 0 rows
