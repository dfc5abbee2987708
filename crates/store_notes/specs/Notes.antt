-- Document 02, R-8: what is kept of each greeting, its note, in the order of the greetings: put in and taken out with its greeting.
use Rattle.std.specs.Prelude.{ℕ, ◌+◌, ◌≡◌, List, [], ◌∷◌, ◌++◌, get_or, take, drop}
use Rattle.store_rows.specs.Rows.{Kept}
use Rattle.store_greeting.specs.Marks.{Note, note_of}

abbrev pub no_note : Note
no_note = record { law = 0; samples = 0; marks = [] }

-- the note of the greeting at place i
abbrev pub nth_note : ℕ → List Note → Note
nth_note i notes = get_or notes i no_note

-- i notes stand before the new one
abbrev pub insert_note : ℕ → Note → List Note → List Note
insert_note i n notes = take i notes ++ (n ∷ drop i notes)

abbrev pub remove_note : ℕ → List Note → List Note
remove_note i notes = take i notes ++ drop (i + 1) notes

-- "Every put and move keeps marks true to what the walk gives": each note is what the walk gives of its greeting, by the note's law.
-- It speaks of the greetings' octets, wherever they lie.
unfoldable pub True : List Kept → List Note → Type 0
True [] [] = Unit {0}
True [] (n ∷ notes) = ⊥
True (k ∷ kept) [] = ⊥
True (k ∷ kept) (n ∷ notes) = (n ≡ note_of n.law k.octets) × True kept notes
