use Rattle.settings.specs.State.{cells_of}
use Rattle.settings.proofs.State.{laid-wiped}
use Rattle.settings.proofs.wipe.Goals as goal

pub returns : goal.returns
unfolding cells_of
returns c = laid-wiped _ _ c.told-state (c.fill.ensures.after (λ y e. e))
