use mathlib.Core.Path.{◌≡◌, sym, ◌∙◌}
use mathlib.Core.Bool.{true}
use native.Mathlib.Omega.{arith}
use Rattle.store_notes.specs.Sane.{Noted}
use Rattle.store_notes.proofs.Matched.{sane-noted}
use Rattle.store_tell.proofs.Telling.{at_table, at-absent, at-found}
use Rattle.store_tell.proofs.at.Goals.{Else-not-sane}
use Rattle.store_tell.proofs.at.Goals as goal

pub returns-then-not-sane : goal.returns-then-not-sane
returns-then-not-sane c =
    let a = c.args in
    at_table a.block.now a.table.now c.size_of-size.ensures c.sane.ensures a.index (c.if-not-sane.true)

-- the table is sane
module _ (c : Else-not-sane) where
  passed : c.sane.result ≡ true
  passed = c.if-not-sane.false

  noted : Noted c.size_of-size.result c.args.table.now
  noted = sane-noted _ _ (sym c.sane.ensures ∙ passed)

pub bounds-table-0 : goal.bounds-table-0
bounds-table-0 c = omega (arith, (noted (goal.at.bounds-table-0 c).Else-not-sane).order.cells)

pub returns-then-n-index : goal.returns-then-n-index
returns-then-n-index c =
    let a = c.args in
    at-absent a.block.now a.table.now c.size_of-size.ensures c.sane.ensures (passed (goal.at.returns-then-n-index c).Else-not-sane) a.index
    (omega arith)

pub tell-requires : goal.tell-requires
tell-requires c =
    let n = noted (goal.at.tell-requires c).Else-not-sane in
    (omega arith, n.order.few, n.count, omega (arith, n.cells))

pub returns : goal.returns
returns c =
    let a = c.args in
    at-found a.block.now a.table.now c.size_of-size.ensures c.sane.ensures (passed (goal.at.returns c).Else-not-sane) a.index
    (omega arith) c.tell.ensures
