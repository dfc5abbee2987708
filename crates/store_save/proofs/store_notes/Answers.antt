-- Note by note (Storing).
use mathlib.Core.Path.{refl, ◌∙◌}
use lib.ListN.{length-set}
use native.Mathlib.Omega.{arith}
use Rattle.store_save.proofs.Bad.{row_inside, part_same}
use Rattle.store_save.proofs.Storing.{all_set, storing-first, storing-one, storing-turn, storing-end}
use Rattle.store_save.proofs.store_notes.Goals as goal

pub bounds-table-97 : goal.bounds-table-97
bounds-table-97 c = let p = c.requires in omega (arith, p.room)

pub loop-i-init : goal.loop-i-init
loop-i-init c = (refl, storing-first c.requires)

pub overflow_mul-i : goal.overflow_mul-i
overflow_mul-i c = let p = c.requires in omega (arith, p.few)

pub overflow_add-i : goal.overflow_add-i
overflow_add-i c = let p = c.requires in omega (arith, p.few)

pub row_at-r-requires : goal.row_at-r-requires
row_at-r-requires c = let p = c.requires in omega (arith, p.few, p.cells-room)

pub slice_bounds-store_note-start : goal.slice_bounds-store_note-start
slice_bounds-store_note-start c =
    let p = c.requires in
    let a = c.args in
    omega (arith, p.inside, row_inside a.cells.now a.size a.n _ c.row_at-r.ensures.0 (omega arith) p.rises)

pub slice_bounds-store_note-end : goal.slice_bounds-store_note-end
slice_bounds-store_note-end c =
    let p = c.requires in
    let a = c.args in
    omega (arith, p.inside, row_inside a.cells.now a.size a.n _ c.row_at-r.ensures.0 (omega arith) p.rises)

pub offset_bounds-laws-i : goal.offset_bounds-laws-i
offset_bounds-laws-i c =
    let p = c.requires in omega (arith, p.few)

pub bounds-laws-i : goal.bounds-laws-i
bounds-laws-i c =
    let p = c.requires in omega (arith, p.few, p.laws-room)

pub store_note-requires : goal.store_note-requires
store_note-requires c =
    let r = c.row_at-r in
    storing-one (all_set c.requires) c.loop-i.invariant.1 (omega arith) r.ensures.0 (part_same c.args.block.now r.result)

pub loop-i-preserved : goal.loop-i-preserved
loop-i-preserved c =
    let r = c.row_at-r in
    let l = c.loop-i.invariant in
    let q = part_same c.args.block.now r.result in (
      c.store_note.auto.table ∙ l.0,
      storing-turn (all_set c.requires) l.1 (omega arith) r.ensures.0 q
          c.store_note.ensures,
    )

pub shape_of-table : goal.shape_of-table
shape_of-table c =
    c.loop-i.invariant.0 ∙ length-set c.args.table.now 97 0

pub returns : goal.returns
returns c = storing-end c.requires c.loop-i.invariant.1 (omega arith)
