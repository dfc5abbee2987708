-- Document 02, R-8: "Lines `law`, `samples` and one `mark` per mark, as octets, a comma and samples, follow `octets`." A greeting's numbers
-- of samples and marks are of any number of digits: whether they are what the walk gives is judged when the whole table is read. "A law
-- above 1 .. is TABLE".
use Rattle.std.specs.Prelude.{ℕ, zero, suc, List, [], ◌∷◌, ◌++◌, cond, length, drop, leb}
use Rattle.rules.specs.Tools.{most_law}
use Rattle.rules.specs.Listing.{field, line_end, law_word, samples_word}
use Rattle.store_rows.specs.declared.rows.Row.{Row}
use Rattle.store_rows.specs.Limits.{most_greetings}
use Rattle.text_keyvalue.specs.Reading.{Read, whole, Reader, and_then, ◌>>=◌, give, begins, after, ended, number}
use Rattle.text_keyvalue.specs.Lines.{line_of, line, ranged}
use Rattle.store_greeting.specs.Marks.{Mark, Note, mark_of}
use Rattle.store_text.specs.Table.{most_place, row, row_text}

-- "mark=", and the comma; "law=" and "samples=" are the listing's words
abbrev pub mark_word : List ℕ
mark_word = 0x6D ∷ 0x61 ∷ 0x72 ∷ 0x6B ∷ 0x3D ∷ []

abbrev pub comma : List ℕ
comma = 0x2C ∷ []

-- a greeting as its lines say
pub record Listed : Type 0 where
  pub row : Row
  pub note : Note

-- "one `mark` per mark, as octets, a comma and samples"
unfoldable pub mark_line : Reader Mark
mark_line = after mark_word (number >>= λ o. after comma (number >>= λ s. after line_end (give (mark_of o s))))

-- the marks that follow, after those that are done; each has an octet of text, so the first number, one more than the octets, is never
-- short
unfoldable pub mark_lines_from : ℕ → List Mark → Reader (List Mark)
mark_lines_from zero done text i = whole done i
mark_lines_from (suc more) done text i =
    cond (begins mark_word (drop i text)) (and_then (mark_line text i) (λ m j. mark_lines_from more (done ++ (m ∷ [])) text j)) (whole done i)

unfoldable pub mark_lines : Reader (List Mark)
mark_lines text i = mark_lines_from (suc (length text)) [] text i

-- a greeting's lines: R-6's three, and these
unfoldable pub listed : ℕ → Reader Listed
listed most = do
  r ← row most
  law ← ranged law_word 0 most_law
  samples ← line samples_word
  ms ← mark_lines
  give (record { row = r; note = record { law = law; samples = samples; marks = ms } })

-- up to `more` greetings after those that are done, to the text's end
unfoldable pub listed_from : ℕ → ℕ → List Listed → Reader (List Listed)
listed_from most zero done text i = ended done text i
listed_from most (suc more) done text i =
    cond (leb (length text) i) (whole done i) (and_then (listed most text i) (λ r j. listed_from most more (done ++ (r ∷ [])) text j))

-- the greetings that a text lists from a place on, their starts and counts of octets up to so many
abbrev pub listed_at : ℕ → ℕ → List ℕ → Read (List Listed)
listed_at most from text = listed_from most most_greetings [] text from

-- the greetings that a text of R-8's lines lists
abbrev pub listed_in : List ℕ → Read (List Listed)
listed_in text = listed_at most_place 0 text

unfoldable pub rows_listed : List Listed → List Row
rows_listed [] = []
rows_listed (x ∷ xs) = x.row ∷ rows_listed xs

unfoldable pub notes_listed : List Listed → List Note
notes_listed [] = []
notes_listed (x ∷ xs) = x.note ∷ notes_listed xs

-- greetings with their notes, to be written
unfoldable pub listing : List Row → List Note → List Listed
listing [] notes = []
listing (r ∷ rows) [] = []
listing (r ∷ rows) (n ∷ notes) = record { row = r; note = n } ∷ listing rows notes

-- as it is written
unfoldable pub mark_text : Mark → List ℕ
mark_text m = field mark_word m.octets ++ (field comma m.samples ++ line_end)

unfoldable pub marks_text : List Mark → List ℕ
marks_text [] = []
marks_text (m ∷ ms) = mark_text m ++ marks_text ms

unfoldable pub note_text : Note → List ℕ
note_text n = line_of law_word n.law ++ (line_of samples_word n.samples ++ marks_text n.marks)

unfoldable pub listed_text : List Listed → List ℕ
listed_text [] = []
listed_text (x ∷ xs) = row_text x.row ++ (note_text x.note ++ listed_text xs)
