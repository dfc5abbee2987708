-- How much of a greeting a mending would keep, and why the walk stopped there: as `Mend`, with no room asked for and nothing written.
use Rattle.std.specs.Prelude.{ℕ, ◌≡◌, List, [], ◌∷◌, cond, length, eqb, leb}
use Rattle.rules.specs.Refusals.{Ending}
use Rattle.rules.specs.declared.Refusal.TheVariants.{Room, Law, Long}
use Rattle.rules.specs.Refusals.{refusal_number, number_of}
use Rattle.rules.specs.Judged.{Asked, ask, judged}
use Rattle.rules.specs.Tools.{is_law}
use Rattle.rules.specs.Walk.{longest}
use Rattle.mending.specs.declared.MendRefusal.{MendRefusal}
use Rattle.mending.specs.declared.MendRefusal.TheVariants.{Frame, Total}
use Rattle.mending.specs.declared.MendAnswer.{MendAnswer}
use Rattle.mending.specs.Mend.{Mend, mends, declines, mended, is_total}
use Rattle.mending.specs.Calls.{mend_end, result_of, frames_kept, kept_of, filled_of, stop_of, bit_of}

-- "g7110_mend's less ROOM"
abbrev pub why_asks : List ℕ → ℕ → ℕ → List ℕ → List (Asked MendRefusal)
why_asks octets law total result =
    ask (Frame Law) (is_law law)
    ∷ ask (Frame Long) (leb (length octets) longest)
    ∷ ask Total (is_total total)
    ∷ ask (Frame Long) (leb (length result) longest)
    ∷ []

unfoldable pub why_of : List ℕ → ℕ → ℕ → Mend
why_of octets law total =
    judged (why_asks octets law total (mended octets law total).octets) declines (mends (mended octets law total))

-- "how the walk of what is kept stopped": "as g7110_walk with all tools and room `total` stops, its ROOM told as 0"
unfoldable pub stop_number : Ending → ℕ
stop_number stop = cond (eqb (number_of stop) (refusal_number Room)) 0 (number_of stop)

-- what is answered; "the place is always the octets kept", so it is not told apart
pub record Answers (m : Mend) (r : MendAnswer) : Type 0 where
  pub end : r.end ≡ mend_end m
  pub octets : r.octets ≡ length (result_of m)
  pub frames : r.frames ≡ frames_kept m
  pub kept : r.kept ≡ kept_of m
  pub filled : r.filled ≡ filled_of m
  pub stop : r.stop ≡ stop_of m
  pub bit : r.bit ≡ bit_of m
