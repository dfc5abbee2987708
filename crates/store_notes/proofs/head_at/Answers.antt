use Prim.Native.Nat.{◌+◌, ◌*◌}
use mathlib.Core.Path.{ap, ◌∙◌}
use lib.ListN.{get_or}
use Rattle.store_rows.specs.declared.rows.Row.{Row}
use Rattle.store_notes.specs.declared.Head.{Head}
use Rattle.store_notes.specs.Cells.{head_in}
use Rattle.store_notes.proofs.Matched.{head-is}
use Rattle.store_notes.proofs.head_at.Goals as goal

pub returns : goal.returns
returns c =
    let s = c.args in
    let r = c.row_at-r.ensures in
    let t = s.table.now in
    let head : Row → Head = λ (x : Row). record { law = get_or t (98 + 3 * s.i) 0; samples = x.start; marks = x.octets } in
    (ap head r.0 ∙ ap head_in (head-is t s.i), r.1, r.2)
