-- R-8's lines in the code's steps: a greeting's row and law, then its samples and marks; passed over first, and compared when the whole
-- table is read.
use Rattle.std.specs.Prelude.{ℕ, min, List, [], ◌∷◌, cond, drop, eqb, Option, Some, None}
use Rattle.rules.specs.Tools.{most_law}
use Rattle.rules.specs.Listing.{law_word, samples_word}
use Rattle.store_rows.specs.declared.rows.Row.{Row}
use Rattle.text_keyvalue.specs.Reading.{Read, whole, none, Reader, and_then, ◌>>=◌, give, begins, after, number, most}
use Rattle.text_keyvalue.specs.Lines.{line, ranged}
use Rattle.store_greeting.specs.Marks.{Mark, Note, mark_of}
use Rattle.store_text.specs.declared.Head.{Head}
use Rattle.store_text.specs.declared.Marked.{Marked}
use Rattle.store_text.specs.Table.{row}
use Rattle.store_text.specs.Fills.{line_row}
use Rattle.store_text.specs.Noted.{Listed, mark_word, mark_line, mark_lines}

-- the lines up to the law
pub record Headed : Type 0 where
  pub row : Row
  pub law : ℕ

abbrev pub head_of : Row → ℕ → Headed
head_of r law = record { row = r; law = law }

unfoldable pub headed : ℕ → Reader Headed
headed most = do
  r ← row most
  law ← ranged law_word 0 most_law
  give (head_of r law)

-- and those after it
unfoldable pub noted : ℕ → Reader Note
noted law = do
  samples ← line samples_word
  ms ← mark_lines
  give (record { law = law; samples = samples; marks = ms })

-- what of a greeting's lines is kept
abbrev pub head_in : Read Listed → Read Headed
head_in (whole x i) = whole (head_of x.row x.note.law) i
head_in none = none

abbrev pub as_head : Option (Head × ℕ) → Read Headed
as_head (Some (h, next)) = whole (head_of (line_row h.line) h.law) next
as_head None = none

-- a number, and a word after it
unfoldable pub number_then : List ℕ → Reader ℕ
number_then word = number >>= λ n. after word (give n)

-- a mark as 32 bits hold it (text_keyvalue, capped)
abbrev pub held_mark : Read Mark → Read Mark
held_mark (whole m i) = whole (mark_of (min m.octets most) (min m.samples most)) i
held_mark none = none

abbrev pub as_mark : Option (Marked × ℕ) → Read Mark
as_mark (Some (m, next)) = whole (mark_of m.octets m.samples) next
as_mark None = none

abbrev pub next_of : {A : Type 0} → Read A → Option ℕ
next_of (whole a i) = Some i
next_of none = None

-- this mark
unfoldable pub mark_is : ℕ → ℕ → Reader ℕ
mark_is octets samples text i =
    and_then (mark_line text i) (λ q j. cond (eqb q.octets octets) (cond (eqb q.samples samples) (whole 0 j) none) none)

-- no mark
unfoldable pub no_mark : Reader ℕ
no_mark text i = cond (begins mark_word (drop i text)) none (whole 0 i)

-- these marks and no others, compared one by one
unfoldable pub marks_are : List Mark → Reader ℕ
marks_are [] text i = no_mark text i
marks_are (m ∷ ms) text i = and_then (mark_is m.octets m.samples text i) (λ z j. marks_are ms text j)

-- these samples
unfoldable pub samples_is : ℕ → Reader ℕ
samples_is samples text i = and_then (line samples_word text i) (λ s j. cond (eqb s samples) (whole 0 j) none)

-- these samples and these marks
unfoldable pub note_is : ℕ → List Mark → Reader ℕ
note_is samples ms text i = and_then (samples_is samples text i) (λ z j. marks_are ms text j)
