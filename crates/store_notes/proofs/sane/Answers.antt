-- The cells, the rows, then the notes beside them (Matched).
use mathlib.Core.Path.{refl, sym, ◌∙◌}
use native.Mathlib.Omega.{arith}
use borrow.Author.Tests.{ne_eqb}
use Rattle.store_rows.proofs.Judged.{sane-ordered}
use Rattle.store_notes.proofs.Matched.{sane-short, sane-not, sane-other, sane-rest}
use Rattle.store_notes.proofs.sane.Goals.{then-table-store_cells-via-then-table-store_cells, then-table-store_cells-via-else-table-store_cells+then-not-sane}
use Rattle.store_notes.proofs.sane.Goals as goal

pub returns-then-table-store_cells : goal.returns-then-table-store_cells
returns-then-table-store_cells c =
    let a = c.args in
    elim c.then-table-store_cells.branch [
      | then-table-store_cells-via-then-table-store_cells w ↦ sane-short a.size a.table.now (omega (arith, c.store_cells.ensures))
      | then-table-store_cells-via-else-table-store_cells+then-not-sane w ↦
          sane-not a.size a.table.now (omega (arith, c.store_cells.ensures)) w.sane.ensures w.if-not-sane.true
    ]

pub fits-requires : goal.fits-requires
fits-requires c =
    let o = sane-ordered _ _ (sym c.sane.ensures ∙ c.if-not-sane.false) in
    (o.few, omega (arith, c.store_cells.ensures))

pub returns-then-table : goal.returns-then-table
returns-then-table c =
    let a = c.args in
    sane-rest a.size a.table.now (omega (arith, c.store_cells.ensures)) c.sane.ensures c.if-not-sane.false refl refl
    c.if-table.true c.fits.ensures

pub returns-else-table : goal.returns-else-table
returns-else-table c =
    let a = c.args in
    ne_eqb _ _ c.if-table.false
    ∙ sane-other a.size a.table.now (omega (arith, c.store_cells.ensures)) c.sane.ensures c.if-not-sane.false refl refl
    c.if-table.false
