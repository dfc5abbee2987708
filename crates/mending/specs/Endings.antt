-- How a mending ended: mended, or refused.
use Rattle.std.specs.declared.result.Result.{Result}
use Rattle.mending.specs.declared.MendRefusal.{MendRefusal}

abbrev pub MendEnding : Type 0
MendEnding = Result (Unit {0}) MendRefusal
