-- The greetings, then their notes (Holding).
use mathlib.Core.Path.{ap, ◌∙◌}
use native.Mathlib.Omega.{arith}
use Rattle.store_rows.specs.Cells.{rows_at}
use Rattle.store_notes.specs.Cells.{notes_laid}
use Rattle.store_save.specs.Steps.{notes_by}
use Rattle.store_save.proofs.Holding.{notes-kept}
use Rattle.store_save.proofs.hold.Goals as goal

pub put_rows-requires : goal.put_rows-requires
put_rows-requires c =
    let a = c.requires.1 in
    (a.few, omega (arith, a.few, a.cells-room), omega (arith, a.few, a.room), c.requires.0)

pub store_notes-requires : goal.store_notes-requires
store_notes-requires c = notes-kept c.requires.1 c.put_rows.auto.table

pub returns : goal.returns
returns c =
    let a = c.args in
    c.store_notes.ensures ∙ ap (notes_laid (notes_by a.block.now (rows_at a.cells.now a.n 1) a.laws.now)) c.put_rows.ensures
