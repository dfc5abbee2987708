use Rattle.settings.proofs.row_at.Goals as goal

pub returns : goal.returns
returns c = rw c.values_at.ensures
