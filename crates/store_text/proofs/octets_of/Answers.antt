-- Counted greeting by greeting (Writing, Counting).
use mathlib.Core.Path.{refl}
use native.Mathlib.Omega.{arith}
use Rattle.store_text.proofs.Writing.{within_first, within-here, within-turn, within-part}
use Rattle.store_text.proofs.Writing.{text-start, text-over, octets-turn, counting-first, counting-end}
use Rattle.store_text.proofs.octets_of.Goals as goal

pub loop-i-init : goal.loop-i-init
loop-i-init c = (within_first _ _ _ (omega arith), counting-first (text-start _ _ _ _))

pub slice_bounds-note_octets-count : goal.slice_bounds-note_octets-count
slice_bounds-note_octets-count c = omega (arith, within-here c.loop-i.invariant.0 (omega arith))

pub slice_bounds-note_octets-start : goal.slice_bounds-note_octets-start
slice_bounds-note_octets-start c = omega (arith, within-here c.loop-i.invariant.0 (omega arith))

pub slice_bounds-note_octets-end : goal.slice_bounds-note_octets-end
slice_bounds-note_octets-end c = omega (arith, within-here c.loop-i.invariant.0 (omega arith))

pub note_octets-note-requires : goal.note_octets-note-requires
note_octets-note-requires c = (omega arith, within-part c.loop-i.invariant.0 (omega arith))

pub overflow_add-sum : goal.overflow_add-sum
overflow_add-sum c = omega (arith, c.note_octets-note.ensures.most, c.row_octets-row.ensures.most)

pub overflow_add-sum-in-loop-i : goal.overflow_add-sum-in-loop-i
overflow_add-sum-in-loop-i c =
    omega (
      arith,
      c.note_octets-note.ensures.most,
      c.row_octets-row.ensures.most,
      c.loop-i.invariant.1.few,
    )

pub overflow_mul-from : goal.overflow_mul-from
overflow_mul-from c =
    omega (arith, within-here c.loop-i.invariant.0 (omega arith))

pub overflow_add-from : goal.overflow_add-from
overflow_add-from c =
    omega (arith, within-here c.loop-i.invariant.0 (omega arith))

pub loop-i-preserved : goal.loop-i-preserved
loop-i-preserved c =
    let o = c.note_octets-note.ensures in
    let r = c.row_octets-row.ensures in
    let s = c.loop-i.invariant in
    let a = c.args in
    let k = octets-turn a.table.now a.heads.now a.marks.now a.n c.loop-i.from c.loop-i.i s.1 (omega arith) in
    (within-turn s.0 (omega arith) refl, k r.value r.most o.value o.most refl)

pub returns : goal.returns
returns c =
    let a = c.args in
    let s = c.loop-i.invariant in
    let all = text-over a.table.now a.heads.now a.marks.now a.n c.loop-i.from c.loop-i.i (omega arith) in
    record { value = counting-end s.1 all; most = omega (arith, s.1.few) }
