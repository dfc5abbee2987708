-- Document 01, "Walk and listing": what the listing program prints, as octets. Every line ends in octet 0A.
-- Document 02, R-7: "The listing's stop line gains ` bit=` at its end, 0 on stops 0, 12 and 13."
use Rattle.std.specs.Prelude.{ℕ, zero, suc, ◌+◌, ◌*◌, ◌/◌, ◌%◌, List, [], ◌∷◌, ◌++◌, cond, not, length, eqb, leb, ltb}
use Rattle.rules.specs.Refusals.{refusal_number, number_of, tool_named}
use Rattle.rules.specs.Frame.{octets_used}
use Rattle.rules.specs.Walk.{Delivered, Walked, walk_all, samples_kept}
use Rattle.rules.specs.declared.Refusal.TheVariants.{Law, Long}

-- a number in decimal, without leading zeros, before the digits that stand; so many digits are enough for 64 bits
unfoldable pub digits_from : ℕ → ℕ → List ℕ → List ℕ
digits_from zero n text = text
digits_from (suc more) n text = cond (ltb n 10) ((48 + n) ∷ text) (digits_from more (n / 10) ((48 + n % 10) ∷ text))

abbrev pub decimal : ℕ → List ℕ
decimal n = digits_from 20 n []

abbrev pub line_end : List ℕ
line_end = 0x0A ∷ []

-- a word, then a number
abbrev pub field : List ℕ → ℕ → List ℕ
field word n = word ++ decimal n

-- "law=", "frame=", " at=", "samples=" and " samples=", " tool=", " octets=", " bits=", "stop=", " bit="
abbrev pub law_word : List ℕ
law_word = 0x6C ∷ 0x61 ∷ 0x77 ∷ 0x3D ∷ []

abbrev pub frame_word : List ℕ
frame_word = 0x66 ∷ 0x72 ∷ 0x61 ∷ 0x6D ∷ 0x65 ∷ 0x3D ∷ []

abbrev pub at_word : List ℕ
at_word = 0x20 ∷ 0x61 ∷ 0x74 ∷ 0x3D ∷ []

abbrev pub samples_word : List ℕ
samples_word = 0x73 ∷ 0x61 ∷ 0x6D ∷ 0x70 ∷ 0x6C ∷ 0x65 ∷ 0x73 ∷ 0x3D ∷ []

abbrev pub tool_word : List ℕ
tool_word = 0x20 ∷ 0x74 ∷ 0x6F ∷ 0x6F ∷ 0x6C ∷ 0x3D ∷ []

abbrev pub octets_word : List ℕ
octets_word = 0x20 ∷ 0x6F ∷ 0x63 ∷ 0x74 ∷ 0x65 ∷ 0x74 ∷ 0x73 ∷ 0x3D ∷ []

abbrev pub bits_word : List ℕ
bits_word = 0x20 ∷ 0x62 ∷ 0x69 ∷ 0x74 ∷ 0x73 ∷ 0x3D ∷ []

abbrev pub stop_word : List ℕ
stop_word = 0x73 ∷ 0x74 ∷ 0x6F ∷ 0x70 ∷ 0x3D ∷ []

abbrev pub bit_word : List ℕ
bit_word = 0x20 ∷ 0x62 ∷ 0x69 ∷ 0x74 ∷ 0x3D ∷ []

-- the lines
unfoldable pub law_line : ℕ → List ℕ
law_line law = field law_word law ++ line_end

unfoldable pub frame_line : ℕ → ℕ → ℕ → ℕ → ℕ → ℕ → List ℕ
frame_line k place samples tool octets bits =
    field frame_word k ++ (field at_word place ++ (field (0x20 ∷ samples_word) samples ++ (field tool_word tool
    ++ (field octets_word octets ++ (field bits_word bits ++ line_end)))))

abbrev pub stop_fields : ℕ → ℕ → ℕ → List ℕ
stop_fields number place tool = field stop_word number ++ (field at_word place ++ field tool_word tool)

unfoldable pub stop_line : ℕ → ℕ → ℕ → ℕ → List ℕ
stop_line number place tool bit = stop_fields number place tool ++ (field bit_word bit ++ line_end)

unfoldable pub samples_line : ℕ → List ℕ
samples_line n = field samples_word n ++ line_end

-- the lines of the frames delivered, counted from k
unfoldable pub frame_lines : ℕ → List Delivered → List ℕ
frame_lines k [] = []
frame_lines k (f ∷ fs) =
    frame_line k f.place (length f.found.samples) f.found.tool (octets_used f.found) f.found.bits
    ++ frame_lines (k + 1) fs

abbrev pub walk_lines : Walked → List ℕ
walk_lines w =
    frame_lines 0 w.frames
    ++ (stop_line (number_of w.end) w.place (tool_named w.end) w.bit ++ samples_line (length (samples_kept w.frames)))

-- "a stream of at most 65,535 octets; set 127": the program's own bound and set
abbrev pub most_listed : ℕ
most_listed = 65535

abbrev pub listed_tools : ℕ
listed_tools = 127

-- "A or M, then a stream of at most 65,535 octets; set 127. Room is never short": 320 samples for each octet are enough.
-- "a longer stream prints that line with 13"
unfoldable pub list_stream : ℕ → List ℕ → List ℕ
list_stream law stream =
    cond (not (leb (length stream) most_listed)) (stop_line (refusal_number Long) 0 0 0)
    (law_line law ++ walk_lines (walk_all stream law listed_tools (320 * length stream)))

-- "Input with no or another first octet prints `stop=12 at=0 tool=0` only", and from R-7 on ` bit=0` after it
unfoldable pub listing : List ℕ → List ℕ
listing [] = stop_line (refusal_number Law) 0 0 0
listing (letter ∷ stream) =
    cond (eqb letter 0x41) (list_stream 0 stream) (cond (eqb letter 0x4D) (list_stream 1 stream) (stop_line (refusal_number Law) 0 0 0))
