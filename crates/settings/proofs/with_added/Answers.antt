use Rattle.settings.proofs.State.{laid-added}
use Rattle.settings.proofs.with_added.Goals as goal

pub returns : goal.returns
returns c =
    laid-added _ _ c.gather-k.ensures c.put_row.ensures c.first_kept-from.ensures c.copy_over.ensures.after
