-- A word, a number, then a comma, a number and 0A.
use native.Mathlib.Omega.{arith}
use Rattle.text_keyvalue.specs.Lines.{line_of}
use Rattle.text_lines.proofs.Putting.{puts_then}
use Rattle.store_text.specs.Noted.{mark_text}
use Rattle.store_text.specs.Held.{mark_at}
use Rattle.store_text.proofs.Writing.{mark-length}
use Rattle.store_text.proofs.put_mark.Goals as goal

pub put_word-a-requires : goal.put_word-a-requires
put_word-a-requires c = let a = c.args in omega (arith, mark-length (mark_at a.cells.now a.k))

pub put_number-b-requires : goal.put_number-b-requires
put_number-b-requires c =
    let a = c.args in
    let w = c.put_word-a.ensures in
    omega (arith, mark-length (mark_at a.cells.now a.k), w.place, w.size)

pub put_line-requires : goal.put_line-requires
put_line-requires c =
    let a = c.args in
    let p = c.put_word-a.ensures in
    let q = c.put_number-b.ensures in
    omega (arith, mark-length (mark_at a.cells.now a.k), p.place, p.size, q.place, q.size)

pub returns : goal.returns
unfolding mark_text line_of
returns c =
    puts_then (puts_then c.put_word-a.ensures c.put_number-b.ensures)
    c.put_line.ensures.puts
