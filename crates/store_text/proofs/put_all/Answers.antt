-- Greeting by greeting, each behind those before it (Writing, Putting).
use mathlib.Core.Path.{refl}
use native.Mathlib.Omega.{arith}
use Rattle.store_text.proofs.Writing.{within_first, within-here, within-turn, within-part}
use Rattle.store_text.proofs.Writing.{text-start, text-over, row_fits, note-fits, note-put, putting-first, putting-end}
use Rattle.store_text.proofs.put_all.Goals as goal

pub loop-i-init : goal.loop-i-init
loop-i-init c = (within_first _ _ _ (omega arith), putting-first _ _ (text-start _ _ _ _))

pub put_row-a-requires : goal.put_row-a-requires
put_row-a-requires c =
    let a = c.args in (
      omega arith,
      row_fits a.table.now a.heads.now a.marks.now a.n c.loop-i.from c.loop-i.i c.loop-i.invariant.1 (omega arith)
          (omega arith),
    )

pub slice_bounds-put_note-count : goal.slice_bounds-put_note-count
slice_bounds-put_note-count c =
    omega (arith, within-here c.loop-i.invariant.0 (omega arith))

pub slice_bounds-put_note-start : goal.slice_bounds-put_note-start
slice_bounds-put_note-start c =
    omega (arith, within-here c.loop-i.invariant.0 (omega arith))

pub slice_bounds-put_note-end : goal.slice_bounds-put_note-end
slice_bounds-put_note-end c =
    omega (arith, within-here c.loop-i.invariant.0 (omega arith))

pub put_note-at-requires : goal.put_note-at-requires
put_note-at-requires c =
    let a = c.args in
    let s = c.loop-i.invariant in
    let f = note-fits a.table.now a.heads.now a.marks.now a.n c.loop-i.from c.loop-i.i s.1 (omega arith)
    c.put_row-a.ensures (omega arith) in
    ((omega arith, within-part s.0 (omega arith)), f)

pub overflow_mul-from : goal.overflow_mul-from
overflow_mul-from c =
    omega (
      arith,
      within-here
          c.loop-i.invariant.0 (omega arith),
    )

pub overflow_add-from : goal.overflow_add-from
overflow_add-from c =
    omega (
      arith,
      within-here
          c.loop-i.invariant.0 (omega arith),
    )

pub loop-i-preserved : goal.loop-i-preserved
loop-i-preserved c =
    let a = c.args in
    let s = c.loop-i.invariant in
    let q = note-put a.table.now a.heads.now a.marks.now a.n c.loop-i.from c.loop-i.i s.1 (omega arith)
    c.put_row-a.ensures c.put_note-at.ensures refl in
    (within-turn s.0 (omega arith) refl, q)

pub shape_of-out : goal.shape_of-out
shape_of-out c = c.loop-i.invariant.1.puts.size

pub returns : goal.returns
returns c =
    let a = c.args in
    putting-end c.loop-i.invariant.1
    (text-over a.table.now a.heads.now a.marks.now a.n c.loop-i.from c.loop-i.i (omega arith))
