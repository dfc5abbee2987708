-- How a call ended: accepted, or refused.
use Rattle.std.specs.declared.result.Result.{Result}
use Rattle.recording.specs.declared.Refusal.{Refusal}

abbrev pub Ending : Type 0
Ending = Result (Unit {0}) Refusal
