-- Three lines, one after another.
use native.Mathlib.Omega.{arith}
use Rattle.store_rows.specs.Cells.{row_at}
use Rattle.text_lines.proofs.Putting.{puts_then}
use Rattle.store_text.specs.Table.{row_text}
use Rattle.store_text.proofs.Writing.{row-length}
use Rattle.store_text.proofs.put_row.Goals as goal

pub put_line-a-requires : goal.put_line-a-requires
put_line-a-requires c =
    let a = c.args in
    omega (arith, row-length (row_at a.table.now a.k))

pub put_line-b-requires : goal.put_line-b-requires
put_line-b-requires c =
    let a = c.args in
    omega (arith, row-length (row_at a.table.now a.k), c.put_line-a.ensures.puts.place, c.put_line-a.ensures.puts.size)

pub put_line-requires : goal.put_line-requires
put_line-requires c =
    let a = c.args in
    let p = c.put_line-a.ensures.puts in
    let q = c.put_line-b.ensures.puts in
    omega (arith, row-length (row_at a.table.now a.k), p.place, p.size, q.place, q.size)

pub returns : goal.returns
unfolding row_text
returns c =
    puts_then c.put_line-a.ensures.puts (puts_then c.put_line-b.ensures.puts c.put_line.ensures.puts)
