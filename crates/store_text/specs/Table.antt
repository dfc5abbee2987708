-- Document 02, R-6: "The table is saved as key=value lines, decimal without leading zeros, each ended by octet 0A: for each greeting
-- `prompt`, `start`, `octets`, in order of start." "Reading is refused with TABLE (26) for lines not of this form or order, a number out of
-- range .., more than 32 greetings".
use Rattle.std.specs.Prelude.{ℕ, zero, suc, List, [], ◌∷◌, ◌++◌, cond, length, leb}
use Rattle.store_rows.specs.declared.rows.Row.{Row}
use Rattle.store_rows.specs.Limits.{most_greetings, most_number}
use Rattle.store_rows.specs.Rows.{row_of}
use Rattle.text_keyvalue.specs.Reading.{Read, whole, Reader, and_then, ◌>>=◌, give, ended}
use Rattle.text_keyvalue.specs.Lines.{line_of, ranged}

-- "prompt=", "start=", "octets="
abbrev pub prompt_word : List ℕ
prompt_word = 0x70 ∷ 0x72 ∷ 0x6F ∷ 0x6D ∷ 0x70 ∷ 0x74 ∷ 0x3D ∷ []

abbrev pub start_word : List ℕ
start_word = 0x73 ∷ 0x74 ∷ 0x61 ∷ 0x72 ∷ 0x74 ∷ 0x3D ∷ []

abbrev pub octets_word : List ℕ
octets_word = 0x6F ∷ 0x63 ∷ 0x74 ∷ 0x65 ∷ 0x74 ∷ 0x73 ∷ 0x3D ∷ []

-- the greatest start or count of octets in such lines: "a start or octet count above 65,535 is TABLE" (R-11; in R-6's blocks there was
-- none)
abbrev pub most_place : ℕ
most_place = 65535

-- a greeting's three lines; a start or a count of octets has so many at most
unfoldable pub row : ℕ → Reader Row
row most = do
  number ← ranged prompt_word 1 most_number
  start ← ranged start_word 0 most
  octets ← ranged octets_word 0 most
  give (row_of number start octets)

-- up to `more` greetings after those that are done, to the text's end
unfoldable pub rows_from : ℕ → List Row → Reader (List Row)
rows_from zero done text i = ended done text i
rows_from (suc more) done text i = cond (leb (length text) i) (whole done i)
    (and_then (row most_place text i) (λ r j. rows_from more (done ++ (r ∷ [])) text j))

-- the greetings that a text lists; an empty text lists none
abbrev pub table_in : List ℕ → Read (List Row)
table_in text = rows_from most_greetings [] text 0

-- as it is written
unfoldable pub row_text : Row → List ℕ
row_text r = line_of prompt_word r.number ++ (line_of start_word r.start ++ line_of octets_word r.octets)

unfoldable pub table_text : List Row → List ℕ
table_text [] = []
table_text (r ∷ rows) = row_text r ++ table_text rows
