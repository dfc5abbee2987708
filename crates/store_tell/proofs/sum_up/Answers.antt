use mathlib.Core.Path.{refl}
use Rattle.store_tell.proofs.Telling.{sums-are}
use Rattle.store_tell.proofs.sum_up.Goals as goal

pub returns : goal.returns
returns c =
    let a = c.args in
    sums-are a.table.now a.size refl c.held-held.ensures.0 c.largest_gap-gap.ensures
