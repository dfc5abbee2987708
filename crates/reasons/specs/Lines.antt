-- Document 02, R-10: "Lines are like `tool=6 state=fits why=0 octets=2` (state out, no or fits; why 0 except for no, octets 0 except for
-- fits) and last `winner=6 by=octets`, or by=tie". Every line ends in octet 0A.
use Rattle.std.specs.Prelude.{ℕ, List, [], ◌∷◌, ◌++◌, Bool, cond}
use Rattle.rules.specs.Listing.{field, line_end, octets_word}
use Rattle.reasons.specs.declared.State.{State}
use Rattle.reasons.specs.declared.State.TheVariants.{Out, No, Fits}
use Rattle.reasons.specs.declared.States.{States}
use Rattle.reasons.specs.declared.Reasons.{Reasons}

-- "tool=", " state=", " why=", "winner=", " by="; " octets=" is the listing's
abbrev pub tool_key : List ℕ
tool_key = 0x74 ∷ 0x6F ∷ 0x6F ∷ 0x6C ∷ 0x3D ∷ []

abbrev pub state_key : List ℕ
state_key = 0x20 ∷ 0x73 ∷ 0x74 ∷ 0x61 ∷ 0x74 ∷ 0x65 ∷ 0x3D ∷ []

abbrev pub why_key : List ℕ
why_key = 0x20 ∷ 0x77 ∷ 0x68 ∷ 0x79 ∷ 0x3D ∷ []

abbrev pub winner_key : List ℕ
winner_key = 0x77 ∷ 0x69 ∷ 0x6E ∷ 0x6E ∷ 0x65 ∷ 0x72 ∷ 0x3D ∷ []

abbrev pub by_key : List ℕ
by_key = 0x20 ∷ 0x62 ∷ 0x79 ∷ 0x3D ∷ []

-- "out", "no", "fits"; "octets", "tie"
abbrev pub out_word : List ℕ
out_word = 0x6F ∷ 0x75 ∷ 0x74 ∷ []

abbrev pub no_word : List ℕ
no_word = 0x6E ∷ 0x6F ∷ []

abbrev pub fits_word : List ℕ
fits_word = 0x66 ∷ 0x69 ∷ 0x74 ∷ 0x73 ∷ []

abbrev pub by_octets : List ℕ
by_octets = 0x6F ∷ 0x63 ∷ 0x74 ∷ 0x65 ∷ 0x74 ∷ 0x73 ∷ []

abbrev pub by_tie : List ℕ
by_tie = 0x74 ∷ 0x69 ∷ 0x65 ∷ []

unfoldable pub fields_line : ℕ → List ℕ → ℕ → ℕ → List ℕ
fields_line tool word why octets =
    field tool_key tool ++ (state_key ++ (word ++ (field why_key why ++ (field octets_word octets ++ line_end))))

abbrev pub tool_line : ℕ → State → List ℕ
tool_line tool Out = fields_line tool out_word 0 0
tool_line tool (No why) = fields_line tool no_word why 0
tool_line tool (Fits octets) = fields_line tool fits_word 0 octets

abbrev pub by_word : Bool → List ℕ
by_word tie = cond tie by_tie by_octets

unfoldable pub winner_line : ℕ → Bool → List ℕ
winner_line winner tie = field winner_key winner ++ (by_key ++ (by_word tie ++ line_end))

-- "list tools 1 to 7 in order", and 11 after them (R-14): the first four, and the others
abbrev pub first_lines : States → List ℕ
first_lines s = tool_line 1 s.uncompressed ++ (tool_line 2 s.plus ++ (tool_line 3 s.minus ++ tool_line 4 s.constant))

abbrev pub later_lines : States → List ℕ
later_lines s = tool_line 5 s.binary ++ (tool_line 6 s.rice ++ (tool_line 7 s.located ++ tool_line 11 s.fractional))

unfoldable pub lines_of : Reasons → List ℕ
lines_of r = first_lines r.states ++ (later_lines r.states ++ winner_line r.winner r.tie)
