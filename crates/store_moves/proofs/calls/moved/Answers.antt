use mathlib.Core.Path.{sym, ◌∙◌}
use native.Mathlib.Omega.{arith}
use Rattle.store_rows.specs.Cells.{rows_of}
use Rattle.store_notes.proofs.Matched.{sane-noted}
use Rattle.store_moves.specs.Next.{moved_in}
use Rattle.store_moves.proofs.Calling.{table-off, table_on, denied, same-changes}
use Rattle.store_moves.proofs.calls.moved.Goals as goal

pub returns-then-not-sane : goal.returns-then-not-sane
returns-then-not-sane c =
    let a = c.args in
    denied a.table.now (table-off a.block.now a.table.now c.size_of-size.ensures c.sane.ensures
    (c.if-not-sane.true) (moved_in (rows_of a.table.now) a.number a.to))

pub moved_in-requires : goal.moved_in-requires
moved_in-requires c =
    (sane-noted _ _ (sym c.sane.ensures ∙ c.if-not-sane.false), omega (arith, c.size_of-size.ensures))

pub returns : goal.returns
returns c =
    let a = c.args in
    same-changes (table_on a.block.now a.table.now c.size_of-size.ensures c.sane.ensures
    (c.if-not-sane.false) (moved_in (rows_of a.table.now) a.number a.to))
    (c.moved_in.ensures)
