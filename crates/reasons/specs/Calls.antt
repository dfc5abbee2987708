-- The lines of an answer in lent octets: at their start, the rest as lent. And what a call says of an answer or a refusal.
use Rattle.std.specs.Prelude.{ℕ, ◌≡◌, List, [], length, Ok, Err}
use Rattle.std.specs.declared.result.Result.{Result}
use Rattle.rules.specs.Refusals.{refusal_number, numbered}
use Rattle.rules.specs.Calls.{at_start}
use Rattle.reasons.specs.declared.Reasons.{Reasons}
use Rattle.rules.specs.declared.Refusal.{Refusal}
use Rattle.reasons.specs.Lines.{lines_of}

pub record Prints (r : Reasons) (text text' : List ℕ) (n : ℕ) : Type 0 where
  pub octets : n ≡ length (lines_of r)
  pub lent : text' ≡ at_start (lines_of r) text

-- the number; "with no line printed" where it is not 0
abbrev pub why_ending : Result Reasons Refusal → ℕ
why_ending = numbered refusal_number

abbrev pub why_text : Result Reasons Refusal → List ℕ
why_text (Ok r) = lines_of r
why_text (Err w) = []
