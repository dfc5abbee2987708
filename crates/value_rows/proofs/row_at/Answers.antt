use mathlib.Core.Path.{◌∙◌}
use Rattle.value_rows.proofs.Rows.{unpacked}
use Rattle.value_rows.proofs.row_at.Goals as goal

pub returns : goal.returns
returns c =
    let e = c.from-e.ensures ∙ c.packed_row.ensures in
    let u = unpacked c.args.k c.requires in
    record { radix = rw e u.radix; low = rw e u.low; below = rw e u.below }
