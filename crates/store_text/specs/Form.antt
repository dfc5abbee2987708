-- Document 02, R-11: "Saved tables gain a first line `form=2` when a start or octet count, or the block, exceeds 65,535, and only then. The
-- new reader takes tables with and without it; without it, a start or octet count above 65,535 is TABLE."
use Rattle.std.specs.Prelude.{ℕ, List, [], ◌∷◌, ◌++◌, Bool, true, false, cond, length, ltb}
use Rattle.store_rows.specs.declared.rows.Row.{Row}
use Rattle.store_rows.specs.Limits.{largest_block}
use Rattle.text_keyvalue.specs.Reading.{Read, begins}
use Rattle.store_text.specs.declared.Form.{Form}
use Rattle.store_text.specs.Table.{most_place}
use Rattle.store_text.specs.Noted.{Listed, listed_at, rows_listed, listed_text}

-- "a first line `form=2`", and octet 0A
abbrev pub form_word : List ℕ
form_word = 0x66 ∷ 0x6F ∷ 0x72 ∷ 0x6D ∷ 0x3D ∷ []

abbrev pub form_line : List ℕ
form_line = 0x66 ∷ 0x6F ∷ 0x72 ∷ 0x6D ∷ 0x3D ∷ 0x32 ∷ 0x0A ∷ []

-- "a start or octet count .. exceeds 65,535"
unfoldable pub any_far : List Row → Bool
any_far [] = false
any_far (r ∷ rows) = cond (ltb most_place r.start) true (cond (ltb most_place r.octets) true (any_far rows))

-- "when a start or octet count, or the block, exceeds 65,535, and only then"
abbrev pub needs_form : ℕ → List Row → Bool
needs_form size rows = cond (any_far rows) true (ltb most_place size)

-- a table as it is saved; the greetings are R-8's lines
abbrev pub saved_text : ℕ → List Listed → List ℕ
saved_text size xs = cond (needs_form size (rows_listed xs)) form_line [] ++ listed_text xs

-- where a text's greetings begin, and the greatest start or count of octets that its lines may say: with the line any that a block has
abbrev pub form_of : List ℕ → Form
form_of text = cond (begins form_line text) (record { from = length form_line; most = largest_block }) (record { from = 0; most = most_place })

-- the greetings that a text lists, with the line or without it
abbrev pub formed_in : List ℕ → Read (List Listed)
formed_in text = listed_at (form_of text).most (form_of text).from text

-- in the code's steps: all greetings lie inside the block, so its size alone tells whether the line is needed (proofs/Formed,
-- `form-by-size`)
abbrev pub form_by : ℕ → List ℕ
form_by size = cond (ltb most_place size) form_line []
