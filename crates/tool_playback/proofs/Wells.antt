-- Nothing is wrong where there is no error.
use Rattle.std.proofs.Common.{◌≡◌, refl, true, false, Ok, Err, sym}
use Rattle.std.proofs.lemmas.Bool.{false≢true}
use Rattle.std.specs.Prelude.{Result}
use Rattle.std.specs.Result.{is_err}
use Rattle.tool_sound.specs.declared.sounds.Trouble.{Trouble}
use Rattle.tool_sound.specs.Uses.{is_well}

pub well_of : (r : Result (Unit {0}) Trouble) → is_err r ≡ false → is_well r ≡ true
well_of (Ok _) e = refl
well_of (Err why) e = absurd (false≢true (sym e))

pub ill : (r : Result (Unit {0}) Trouble) → is_err r ≡ true → is_well r ≡ true → ⊥
ill (Ok _) e w = false≢true e
ill (Err why) e w = false≢true w
