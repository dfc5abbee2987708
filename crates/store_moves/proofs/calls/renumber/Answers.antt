use mathlib.Core.Path.{sym, ◌∙◌}
use Rattle.store_rows.specs.Cells.{rows_of}
use Rattle.store_notes.proofs.Matched.{sane-noted}
use Rattle.store_moves.specs.Next.{renumber_in}
use Rattle.store_moves.proofs.Calling.{table-off, table_on, denied, same-changes}
use Rattle.store_moves.proofs.calls.renumber.Goals as goal

pub returns-then-not-sane : goal.returns-then-not-sane
returns-then-not-sane c =
    let a = c.args in
    denied a.table.now (table-off a.block.now a.table.now c.size_of-size.ensures c.sane.ensures
    (c.if-not-sane.true) (renumber_in (rows_of a.table.now) a.number a.to))

pub renumber_in-requires : goal.renumber_in-requires
renumber_in-requires c =
    sane-noted _ _ (sym c.sane.ensures ∙ c.if-not-sane.false)

pub returns : goal.returns
returns c =
    let a = c.args in
    same-changes (table_on a.block.now a.table.now c.size_of-size.ensures c.sane.ensures
    (c.if-not-sane.false) (renumber_in (rows_of a.table.now) a.number a.to))
    (c.renumber_in.ensures)
