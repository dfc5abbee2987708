-- Document 02, R-13: "`law` (0 or 1), `set` (0 to 127), `block` (1 to 1,048,576), `greeting` (0 to 65,535, 0 for none),
-- one line each in that order, written as in R-6".
use Rattle.std.specs.Prelude.{ℕ, List, [], ◌∷◌, ◌++◌}
use Rattle.rules.specs.Tools.{most_law, all_tools}
use Rattle.rules.specs.Listing.{law_word}
use Rattle.text_keyvalue.specs.Reading.{Read, whole, none, Reader, ◌>>=◌, give, ended}
use Rattle.text_keyvalue.specs.Lines.{line_of, ranged}
use Rattle.settings.specs.declared.Settings.{Settings}
use Rattle.std.specs.Prelude.{Option, Some, None}

-- "set=", "block=", "greeting="
abbrev pub set_word : List ℕ
set_word = 0x73 ∷ 0x65 ∷ 0x74 ∷ 0x3D ∷ []

abbrev pub block_word : List ℕ
block_word = 0x62 ∷ 0x6C ∷ 0x6F ∷ 0x63 ∷ 0x6B ∷ 0x3D ∷ []

abbrev pub greeting_word : List ℕ
greeting_word = 0x67 ∷ 0x72 ∷ 0x65 ∷ 0x65 ∷ 0x74 ∷ 0x69 ∷ 0x6E ∷ 0x67 ∷ 0x3D ∷ []

-- the greatest block and greeting; law and set are those of the calls
abbrev pub most_block : ℕ
most_block = 1048576

abbrev pub most_greeting : ℕ
most_greeting = 65535

unfoldable pub four_lines : Reader Settings
four_lines = do
  law ← ranged law_word 0 most_law
  set ← ranged set_word 0 all_tools
  block ← ranged block_word 1 most_block
  greeting ← ranged greeting_word 0 most_greeting
  give (record { law = law; set = set; block = block; greeting = greeting })

-- the four lines, and nothing after them
unfoldable pub settings : Reader Settings
settings = four_lines >>= ended

abbrev pub given : Read Settings → Option Settings
given (whole s i) = Some s
given none = None

-- the settings that a text is, or "text not of this form or a value out of its range"
abbrev pub settings_in : List ℕ → Option Settings
settings_in text = given (settings text 0)

unfoldable pub settings_text : Settings → List ℕ
settings_text s =
    line_of law_word s.law ++ (line_of set_word s.set ++ (line_of block_word s.block ++ line_of greeting_word s.greeting))
