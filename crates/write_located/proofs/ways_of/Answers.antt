use Rattle.write_located.proofs.Turns.{ways-are}
use mathlib.Core.Path.{refl}
use Rattle.write_located.proofs.ways_of.Goals as goal

pub returns : goal.returns
returns c =
    ways-are refl c.requires.frame_bound.0 c.requires.in_turn c.found_in-found.ensures
    c.way_of.ensures c.way_if.ensures c.way_if-2.ensures
