-- The octets of three lines.
use native.Mathlib.Omega.{arith}
use Rattle.store_rows.specs.Cells.{row_at}
use Rattle.store_text.proofs.Writing.{row-length}
use Rattle.store_text.proofs.row_octets.Goals as goal

pub returns : goal.returns
returns c =
    let o = c.line_octets-c.ensures in
    let s = c.line_octets-b.ensures in
    let n = c.line_octets-a.ensures in
    let a = c.args in
    record {
      value = omega (arith, row-length (row_at a.table.now a.k), o.value, s.value, n.value);
      most = omega (arith, o.most, s.most, n.most);
    }
