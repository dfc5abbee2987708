-- What a frame's first octets tell: "tool, samples of the frame at the start, from its first one or two octets; a pad is 0, 0; nothing past
-- them is looked at". In the order of a frame's reading (rules, Frame), up to its body: "SET; SHORT of no octets; PREFIX (01 too); SHORT
-- where 28, 2A, 38 or 3A, or another first octet that a second one must decide, stands alone; TOOL as g7110_read gives it. A pad needs no
-- tool. A cut body is no refusal."
use Rattle.std.specs.Prelude.{ℕ, ◌+◌, ◌≡◌, List, [], ◌∷◌, cond, not}
use Rattle.rules.specs.Refusals.{Ending}
use Rattle.std.specs.Prelude.{Ok, Err}
use Rattle.rules.specs.declared.Refusal.TheVariants.{Prefix, Tool, Set}
use Rattle.rules.specs.Refusals.{ask, judged, refusal_tool}
use Rattle.rules.specs.Tools.{holds, is_set}
use Rattle.rules.specs.Bits.{bits_of}
use Rattle.rules.specs.Reading.{Read, whole, refuse, Reader, ◌>>=◌, give, fail, from, number}
use Rattle.rules.specs.First.{First, unassigned, pad, tool, fractional_row, six_or_eight, first_octet, mark_at, six_not_eight}
use Rattle.read_head.specs.declared.Told.{Told}

-- the tool of a frame, and its samples
pub record FrameHead : Type 0 where
  pub tool : ℕ
  pub samples : ℕ

-- the tool is decided: TOOL
abbrev pub by_tool : ℕ → ℕ → ℕ → Reader FrameHead
by_tool set t n = cond (not (holds set t)) (fail (Tool t) 0) (give (record { tool = t; samples = n }))

-- what the first octet begins; "Pads need no tool"
unfoldable pub head_after : ℕ → First → Reader FrameHead
head_after set unassigned = fail Prefix 0
head_after set pad = give (record { tool = 0; samples = 0 })
head_after set (tool t n) = by_tool set t n
head_after set (fractional_row k n) = by_tool set 11 n
head_after set (six_or_eight n) =
    from (mark_at n + 1) (do
      t ← six_not_eight
      by_tool set t n)

unfoldable pub head_of : List ℕ → ℕ → Read FrameHead
head_of octets set =
    judged (ask Set (is_set set) ∷ []) (λ why. fail why 0) (do
      o ← number 8
      head_after set (first_octet o)) (bits_of octets) 0

-- what is reported of it: "TOOL (the report is the tool, 0)"
abbrev pub head_end : Read FrameHead → Ending
head_end (whole h i) = Ok tt
head_end (refuse w at) = Err w

abbrev pub head_tool : Read FrameHead → ℕ
head_tool (whole h i) = h.tool
head_tool (refuse w at) = refusal_tool w

abbrev pub head_samples : Read FrameHead → ℕ
head_samples (whole h i) = h.samples
head_samples (refuse w at) = 0

pub record Heads (head : Read FrameHead) (r : Told) : Type 0 where
  pub end : r.end ≡ head_end head
  pub tool : r.tool ≡ head_tool head
  pub samples : r.samples ≡ head_samples head
