use Rattle.store_tell.proofs.Telling.{tell-is}
use Rattle.store_tell.proofs.tell.Goals as goal

pub returns : goal.returns
returns c =
    tell-is c.args.table.now c.args.i c.requires.0 c.requires.2 c.row_at-r.ensures.0 c.head_at-h.ensures.0
