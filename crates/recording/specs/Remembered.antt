-- RFC 7655's storage file, as it is remembered: the RFC was not at hand. A person who has it checks this file against it, and changes
-- what differs here. No other definition repeats an octet of the heading or a mark. Code does, proved equal to these: src/marking.rt, and
-- `kind_of` of crates/tool_playback. docs/DECISIONS.md names what else has them (before 1.1).
--   heading_of, headed: "heading with version and law".      lost_octet, erased: "the RFC's mark for a lost frame".
use Rattle.std.specs.Prelude.{ℕ, List, [], ◌∷◌, Bool, cond, not, ◌&&◌, ◌||◌, length, pos, negsuc, eqb}
use Rattle.rules.specs.Samples.{sample_of}
use Rattle.rules.specs.Chooses.{every}
use Rattle.text_keyvalue.specs.Reading.{begins}

-- "#!G7110A" or "#!G7110M" and octet 0A, then the version, 00
abbrev pub heading_of : ℕ → List ℕ
heading_of law = 0x23 ∷ 0x21 ∷ 0x47 ∷ 0x37 ∷ 0x31 ∷ 0x31 ∷ 0x30 ∷ cond (eqb law 0) 0x41 0x4D ∷ 0x0A ∷ 0x00 ∷ []

abbrev pub heading_length : ℕ
heading_length = 10

-- the law that a heading says, or that there is none: another letter, another version, fewer octets
pub data Headed : Type 0 where
  heading : ℕ → Headed
  no_heading : Headed

unfoldable pub headed : List ℕ → Headed
headed octets = cond (begins (heading_of 0) octets) (heading 0) (cond (begins (heading_of 1) octets) (heading 1) no_heading)

-- The mark that stands alone: an octet that document 01's table leaves unassigned. The loss's length is not known.
abbrev pub lost_octet : ℕ
lost_octet = 0x01

-- The erasure frame, of any tool: its samples are all 0++ or all 0--, the second levels from zero. It is a loss of as many samples.
abbrev pub plus_plus : ℕ → ℕ
plus_plus mask = sample_of mask (pos 1)

abbrev pub minus_minus : ℕ → ℕ
minus_minus mask = sample_of mask (negsuc 1)

unfoldable pub erased : ℕ → List ℕ → Bool
erased mask s = not (eqb (length s) 0) && (every (λ x. eqb x (plus_plus mask)) s || every (λ x. eqb x (minus_minus mask)) s)
