use mathlib.Core.Path.{sym, ◌∙◌}
use native.Mathlib.Omega.{arith}
use Rattle.store_notes.proofs.Matched.{sane-noted}
use Rattle.store_tell.proofs.Telling.{totals-table, totals-are}
use Rattle.store_tell.proofs.totals.Goals as goal

pub returns-then-not-sane : goal.returns-then-not-sane
returns-then-not-sane c =
    let a = c.args in
    totals-table a.block.now a.table.now c.size_of-size.ensures c.sane.ensures (c.if-not-sane.true)

pub sum_up-requires : goal.sum_up-requires
sum_up-requires c = (
  (sane-noted _ _ (sym c.sane.ensures ∙ c.if-not-sane.false)).order,
  omega (arith, c.size_of-size.ensures),
)

pub returns : goal.returns
returns c =
    let a = c.args in
    totals-are a.block.now a.table.now c.size_of-size.ensures c.sane.ensures (c.if-not-sane.false)
    c.sum_up.ensures
