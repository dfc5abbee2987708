-- How a frame opens, and what is left to read after it.
use Rattle.std.specs.Prelude.{ℕ, ◌-◌, ◌≤◌, ◌<◌, ◌≡◌, List, [], true, cond, eqb, length, Ok, Err}
use Rattle.std.specs.declared.result.Result.{Result}
use Rattle.std.specs.declared.option.Option.{Option}
use Rattle.std.specs.declared.option.Option.TheVariants.{Some, None}
use Rattle.rules.specs.Tools.{is_length}
use Rattle.rules.specs.Bits.{bits_of}
use Rattle.rules.specs.Reading.{Read, whole, refuse, Reader}
use Rattle.rules.specs.First.{six_or_eight}
use Rattle.rules.specs.Samples.{mask_of}
use Rattle.rules.specs.Zeros.{plus_minus}
use Rattle.rules.specs.Fractional.{first_code, fractional}
use Rattle.rules.specs.Frame.{Found, body, with_tool, after_first, frame, read_one}
use Rattle.read_bits.specs.declared.Stop.{Stop}
use Rattle.read_opening.specs.declared.Head.{Head}

-- how a frame opens; a pad has no head
abbrev pub Opening : Type 0
Opening = Result (Option Head) Stop

-- what a head has as its mark: tool 6's mark, tool 11's row, which first octet o tells, and else 0
abbrev pub row_in : ℕ → ℕ → ℕ → ℕ
row_in o t n = cond (eqb t 11) (o - first_code n) 0

-- the body of tool t with that
unfoldable pub body_by : ℕ → ℕ → ℕ → ℕ → Reader (List ℕ)
body_by mask t n mark = cond (eqb t 6) (plus_minus mask n mark) (cond (eqb t 11) (fractional mask mark n) (body mask t n))

abbrev pub body_of : ℕ → Head → Reader (List ℕ)
body_of mask h = body_by mask h.tool h.len h.mark

-- the reading of the frame, given how it opens
abbrev pub after_opening : ℕ → ℕ → ℕ → Opening → List ℕ → Read Found
after_opening mask set room (Err s) bits = refuse s.why s.bit
after_opening mask set room (Ok None) bits = whole (record { tool = 0; samples = []; bits = 8 }) 8
after_opening mask set room (Ok (Some h)) bits = with_tool set room h.tool h.len (body_of mask h) bits h.at

-- the ranges of what was read
pub record HeadFits (h : Head) : Type 0 where
  pub len : is_length h.len ≡ true
  pub mark : h.mark < 12
  pub at : h.at ≤ 8
  pub whole-octet : h.tool ≤ 5 → h.at ≡ 8

abbrev pub Ranges : List ℕ → Opening → Type 0
Ranges octets (Err s) = Unit {0}
Ranges octets (Ok None) = Unit {0}
Ranges octets (Ok (Some h)) = (HeadFits h) × (1 ≤ length octets)

-- the opening of a frame of 6 or 8, its length known
pub record SixOrEight (octets : List ℕ) (n : ℕ) (r : Opening) : Type 0 where
  pub says : (mask set room i : ℕ) → after_opening mask set room r (bits_of octets) ≡ after_first mask set room (six_or_eight n)
      (bits_of octets) i
  pub ranges : Ranges octets r

pub record Opens (octets : List ℕ) (r : Opening) : Type 0 where
  pub says : (mask set room : ℕ) → after_opening mask set room r (bits_of octets) ≡ frame mask set room (bits_of octets) 0
  pub ranges : Ranges octets r

-- the same of one frame at the start of some octets, its law and set not looked at yet
pub record Starts (octets : List ℕ) (law set : ℕ) (r : Opening) : Type 0 where
  pub says : (room : ℕ) → after_opening (mask_of law) set room r (bits_of octets) ≡ read_one octets law set room
  pub ranges : Ranges octets r
