-- What a file is: `unpack` "knows a recording by its heading".
use Rattle.std.specs.Prelude.{ℕ, List, cond, take}
use Rattle.text_keyvalue.specs.Reading.{begins}
use Rattle.recording.specs.Remembered.{Headed, heading, no_heading, headed, heading_of}
use Rattle.tool_playback.specs.declared.kinds.Kind.{Kind}
use Rattle.tool_playback.specs.declared.kinds.Kind.TheVariants.{Stream, Recording, Headless}

-- the first seven octets of a heading tell no law
abbrev pub heading_start : List ℕ
heading_start = take 7 (heading_of 0)

abbrev pub kind_by : Headed → Kind → Kind
kind_by (heading law) other = Recording law
kind_by no_heading other = other

unfoldable pub kind_of : List ℕ → Kind
kind_of octets = kind_by (headed octets) (cond (begins heading_start octets) Headless Stream)
