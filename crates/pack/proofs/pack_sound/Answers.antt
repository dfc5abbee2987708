-- The parts begin with no sound, packed well, and are those of one sound (Running).
use mathlib.Core.Path.{◌∙◌}
use mathlib.Core.Bool.{true}
use Rattle.pack.specs.declared.Run.{Run}
use Rattle.pack.proofs.Running.{stands-first}
use Rattle.pack.proofs.pack_sound.Goals as goal

pub all_parts-requires : goal.all_parts-requires
all_parts-requires c =
    let first : Run = record { packed = c.args.packed; filled = 0; more = true; left = c.in-Some.left } in
    (stands-first c.args.job first c.requires.0, c.open_sound.auto.space ∙ c.requires.1, c.requires.2)
