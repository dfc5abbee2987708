-- Whether a text is taken, and why not.
use Rattle.std.specs.Prelude.{Result}
use Rattle.store.specs.declared.Refusal.{Refusal}

abbrev pub Verdict : Type 0
Verdict = Result (Unit {0}) Refusal
