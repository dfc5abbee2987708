-- Document 01, reading one frame: "in a frame PREFIX, tool decided, TOOL, ROOM, then body checks as the bits come, ALIGN last".
use Rattle.std.specs.Prelude.{ℕ, ◌+◌, List, [], cond, not, eqb, ltb}
use Rattle.rules.specs.declared.Refusal.TheVariants.{Prefix, Tool, Room}
use Rattle.rules.specs.Refusals.{judged}
use Rattle.rules.specs.Tools.{holds, reader_asks}
use Rattle.rules.specs.Bits.{bits_of, octets_for, fill_for}
use Rattle.rules.specs.Reading.{Read, Reader, ◌>>=◌, give, fail, here, from, bit, number, filled}
use Rattle.rules.specs.First.{First, unassigned, pad, tool, fractional_row, six_or_eight, first_octet, mark_at, six_not_eight}
use Rattle.rules.specs.Samples.{mask_of, plus_zero, minus_zero}
use Rattle.rules.specs.Zeros.{uncompressed, constantly, constant, binary, plus_minus}
use Rattle.rules.specs.Located.{located}
use Rattle.rules.specs.Fractional.{fractional}

-- an accepted frame: its tool, its samples (their number is its length), and its bits, prefix and body and nothing else
pub record Found : Type 0 where
  pub tool : ℕ
  pub samples : List ℕ
  pub bits : ℕ

abbrev pub octets_used : Found → ℕ
octets_used f = octets_for f.bits

-- the body of a tool that its first octet tells whole: 1 to 5, and 7
unfoldable pub body : ℕ → ℕ → ℕ → Reader (List ℕ)
body mask t n =
    cond (eqb t 1) (uncompressed n)
    (cond (eqb t 2) (constantly n (plus_zero mask))
    (cond (eqb t 3) (constantly n (minus_zero mask))
    (cond (eqb t 4) (constant n)
    (cond (eqb t 5) (binary mask n)
    (located mask n)))))

-- the tool is decided: TOOL ("8 to 13, or 1 to 7 and not in the set"; R-14: 11 only where it is not in the set), ROOM, the body, ALIGN
unfoldable pub with_tool : ℕ → ℕ → ℕ → ℕ → Reader (List ℕ) → Reader Found
with_tool set room t n r =
    cond (not (holds set t)) (fail (Tool t) 0)
    (cond (ltb room n) (fail Room 0) (do
      samples ← r
      bits ← here
      filled (record { tool = t; samples = samples; bits = bits }) (fill_for bits)))

-- what the first octet begins; "Pads need no tool", and "A pad reports 8 bits"
unfoldable pub after_first : ℕ → ℕ → ℕ → First → Reader Found
after_first mask set room unassigned = fail Prefix 0
after_first mask set room pad = give (record { tool = 0; samples = []; bits = 8 })
after_first mask set room (tool t n) = with_tool set room t n (body mask t n)
after_first mask set room (fractional_row k n) = with_tool set room 11 n (fractional mask k n)
after_first mask set room (six_or_eight n) =
    from (mark_at n) (do
      mark ← bit
      t ← six_not_eight
      from (mark_at n + 1) (with_tool set room t n (plus_minus mask n mark)))

unfoldable pub frame : ℕ → ℕ → ℕ → Reader Found
frame mask set room = do
  o ← number 8
  after_first mask set room (first_octet o)

-- one frame, `room` being the output's: "Order: LAW, SET", then the frame
abbrev pub single : ℕ → ℕ → ℕ → Reader Found
single law set room = judged (reader_asks law set) (λ why. fail why 0) (frame (mask_of law) set room)

-- "one frame at the start of some octets"
unfoldable pub read_one : List ℕ → ℕ → ℕ → ℕ → Read Found
read_one octets law set room = single law set room (bits_of octets) 0
