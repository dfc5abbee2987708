-- Document 01, "The part of G.711.0 we carry", with tool 11 of document 02, R-14: tool sets, laws, lengths; and what a call asks of them.
use Rattle.std.specs.Prelude.{ℕ, ◌-◌, ◌^◌, ◌/◌, ◌%◌, ◌≡◌, List, [], ◌∷◌, Bool, true, cond, ◌&&◌, ◌||◌, eqb, leb}
use Rattle.rules.specs.declared.Refusal.TheVariants.{Set, Law}
use Rattle.rules.specs.Refusals.{Asked, ask}

-- "Tool t (1 to 7) adds 2^(t-1)"; R-14: tool 11 "gains 128 in the tool set". What is a tool, its place in a set, and whether a set holds it
abbrev pub is_tool : ℕ → Bool
is_tool t = leb 1 t && leb t 7 || eqb t 11

abbrev pub slot_of : ℕ → ℕ
slot_of t = cond (eqb t 11) 7 (t - 1)

unfoldable pub holds : ℕ → ℕ → Bool
holds set t = is_tool t && eqb (set / 2 ^ slot_of t % 2) 1

-- one's tools within the other's
pub record Within (a b : ℕ) : Type 0 where
  pub also : (t : ℕ) → holds a t ≡ true → holds b t ≡ true

-- "A tool set is a number from 0 to 127"; R-14: "so sets run to 255"
abbrev pub all_tools : ℕ
all_tools = 255

abbrev pub is_set : ℕ → Bool
is_set set = leb set all_tools

-- "A writer's set must hold tool 1, so it is odd."
abbrev pub is_writer_set : ℕ → Bool
is_writer_set set = is_set set && eqb (set % 2) 1

-- "The law is 0 for A, 1 for mu."
abbrev pub most_law : ℕ
most_law = 1

abbrev pub is_law : ℕ → Bool
is_law law = leb law most_law

-- the lengths that a frame of samples may have; a frame of none is a pad
abbrev pub is_length : ℕ → Bool
is_length n = eqb n 40 || eqb n 80 || eqb n 160 || eqb n 240 || eqb n 320

-- "Order: LAW, SET": what a reader asks of its settings, and a writer
abbrev pub reader_asks : ℕ → ℕ → List Asked
reader_asks law set = ask Law (is_law law) ∷ ask Set (is_set set) ∷ []

abbrev pub writer_asks : ℕ → ℕ → List Asked
writer_asks law set = ask Law (is_law law) ∷ ask Set (is_writer_set set) ∷ []
