use mathlib.Core.Path.{ap, sym, ◌∙◌}
use mathlib.Core.List.{List}
use Rattle.store_rows.specs.declared.rows.Row.{Row}
use Rattle.store_rows.specs.Cells.{rows_at}
use Rattle.store_rows.specs.Finding.{find_from}
use Rattle.store_rows.proofs.Cells.{length-rows}
use Rattle.store_rows.proofs.Left.{left-all}
use Rattle.store_rows.proofs.Finding.{place-told}
use Rattle.store_rows.proofs.rows.find.Goals as goal

pub returns : goal.returns
returns c =
    let s = c.args in
    place-told s.number s.n (rows_at s.table.now s.n 1) (length-rows s.table.now s.n 1)
    (c.find_from.ensures.0 ∙ ap (λ (r : List Row). find_from s.number 0 r) (sym (left-all s.table.now s.n))) c.find_from.ensures.1
