-- The row's octets lie inside the block, its marks inside the cells (Steps).
use Prim.Native.Nat.{ℕ, ◌+◌, ◌*◌, ◌≤◌}
use mathlib.Core.Path.{ap}
use native.Mathlib.Omega.{arith}
use lib.ListN.{length, length-drop}
use Rattle.rules.proofs.Lent.{from_on}
use Rattle.store_notes.specs.declared.Head.{Head}
use Rattle.store_jump.proofs.Steps.{row_inside, marks-inside, row-at}
use Rattle.store_jump.proofs.jumping.at_row.Goals.{After-marks_before}
use Rattle.store_jump.proofs.jumping.at_row.Goals as goal

-- the row, its note's head, and the marks before its own
module _ (c : After-marks_before) where
  inside : 194 + 2 * c.marks_before.result + 2 * c.head_at-head.result.marks ≤ length c.args.table.now
  inside = omega (
    arith,
    marks-inside c.requires.0 c.requires.2 c.requires.3 (ap (λ (h : Head). h.marks) c.head_at-head.ensures.0),
    c.marks_before.ensures.0,
  )

pub slice_bounds-within-end : goal.slice_bounds-within-end
slice_bounds-within-end c =
    let p = c.requires in
    omega (arith, row_inside p.0 p.2 p.3 c.row_at-r.ensures.0, p.1)

pub slice_bounds-within-count-2 : goal.slice_bounds-within-count-2
slice_bounds-within-count-2 c = omega (arith, inside (goal.at.slice_bounds-within-count-2 c).After-marks_before)

pub slice_bounds-within-start-2 : goal.slice_bounds-within-start-2
slice_bounds-within-start-2 c = omega (arith, inside (goal.at.slice_bounds-within-start-2 c).After-marks_before)

pub within-requires : goal.within-requires
within-requires c =
    let t = c.args.table.now in
    let first = 194 + 2 * c.marks_before.result in
    (rw (from_on t first) (omega (arith, inside (goal.at.within-requires c).After-marks_before, length-drop first t)), c.head_at-head.ensures.2)

pub returns : goal.returns
returns c =
    let a = c.args in
    let p = c.requires in
    row-at p.0 p.2 p.3 a.block.now a.sample c.row_at-r.ensures.0 c.head_at-head.ensures.0
    (ap (λ (x : ℕ). 194 + 2 * x) c.marks_before.ensures.0) c.within.ensures
