use Rattle.settings.proofs.State.{not-kept, is-kept}
use Rattle.settings.proofs.keep_row.Goals as goal

pub returns-then-r-eq0 : goal.returns-then-r-eq0
returns-then-r-eq0 c = not-kept _ _ _ c.if-r-eq0.true

pub returns-else-r-eq0 : goal.returns-else-r-eq0
returns-else-r-eq0 c = is-kept _ _ _ c.if-r-eq0.false c.put_row.ensures
