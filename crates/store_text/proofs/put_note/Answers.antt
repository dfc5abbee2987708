-- Two lines, then the marks.
use Prim.Native.Nat.{◌+◌}
use native.Mathlib.Omega.{arith}
use Rattle.text_lines.proofs.Putting.{puts_then}
use Rattle.store_text.specs.Noted.{note_text}
use Rattle.store_text.specs.Held.{note_at}
use Rattle.store_text.proofs.Writing.{note-length}
use Rattle.store_text.proofs.put_note.Goals as goal

pub put_line-a-requires : goal.put_line-a-requires
put_line-a-requires c =
    let a = c.args in
    omega (arith, note-length (note_at a.heads.now a.k a.cells.now))

pub put_line-b-requires : goal.put_line-b-requires
put_line-b-requires c =
    let a = c.args in
    let p = c.put_line-a.ensures.puts in
    omega (arith, note-length (note_at a.heads.now a.k a.cells.now), p.place, p.size)

pub put_marks-requires : goal.put_marks-requires
put_marks-requires c =
    let a = c.args in
    let p = c.put_line-a.ensures.puts in
    let q = c.put_line-b.ensures.puts in
    let r = c.type_inv.cells (a.k + 2) in
    let n = note-length (note_at a.heads.now a.k a.cells.now) in
    (omega arith, omega (arith, r), omega (arith, n, p.place, p.size, q.place, q.size))

pub returns : goal.returns
unfolding note_text
returns c =
    puts_then c.put_line-a.ensures.puts (puts_then c.put_line-b.ensures.puts c.put_marks.ensures)
