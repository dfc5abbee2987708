use Prim.Native.Nat.{◌+◌, ◌*◌, ◌<◌}
use mathlib.Core.Path.{◌≡◌, ◌∙◌}
use native.Mathlib.Omega.{arith}
use lib.ListN.{get_or, set}
use Rattle.store_rows.specs.declared.rows.Row.{Row}
use Rattle.store_rows.specs.Cells.{row_at}
use Rattle.store_rows.proofs.Rising.{Next}
use Rattle.store_rows.proofs.Closed.{Closing, close-none, close-all, close-next, row_here, close-turn, moved-few, settled}
use Rattle.store_rows.proofs.closing.close_up.Goals.{In-loop-i, After-shift}
use Rattle.store_rows.proofs.closing.close_up.Goals as goal

-- a turn of the loop, and its row
module _ (c : In-loop-i) where
  here : c.loop-i.i < get_or c.args.table.now 0 0
  here = omega (arith, c.loop-i-test.true)

  near : {r : Row} → r ≡ row_at c.loop-i.table (1 + 3 * c.loop-i.i)
      → Next 1 c.loop-i.to c.args.size r
  near e =
      let s = c.requires in
      rw (e ∙ row_here s.ordered s.size_in_bounds.0 c.loop-i.invariant here) (close-next s.ordered s.size_in_bounds.0 c.loop-i.invariant here)

module _ (c : After-shift) where
  turned : let a = c.args in
      let l = c.loop-i in
      Closing a.size a.block.now a.table.now (l.i + 1) c.shift.new.block
      (set l.table (1 + 3 * l.i + 1) l.to)
      (l.to + c.row_at-r.result.octets) (l.moved + c.moved_one-m.result)
  turned =
      let s = c.requires in
      let e = c.moved_one-m.ensures in
      let r = c.row_at-r.result in
      let n = near (goal.at.After-shift c).In-loop-i c.row_at-r.ensures.0 in
      close-turn s.ordered s.size_in_bounds.0 c.loop-i.invariant (omega (arith, c.loop-i-test.true))
      c.row_at-r.ensures.0
      (c.shift.ensures ∙ settled c.loop-i.block r.start c.loop-i.to r.octets e (omega (arith, n.above, n.inside, c.loop-i.invariant.block_size))) e

pub loop-i-init : goal.loop-i-init
loop-i-init c = close-none c.requires.ordered c.requires.size_in_bounds.0

pub row_at-r-requires : goal.row_at-r-requires
row_at-r-requires c =
    let o = c.requires.ordered in
    omega (arith, o.cells, o.few, here c, c.loop-i.invariant.table-size)

pub shift-requires : goal.shift-requires
shift-requires c =
    let n = near (goal.at.shift-requires c).In-loop-i c.row_at-r.ensures.0 in
    let few = moved-few c.row_at-r.result.start c.loop-i.to c.row_at-r.result.octets in
    (n.above, omega (arith, n.inside, few, c.moved_one-m.ensures, c.loop-i.invariant.block_size))

pub overflow_cast-table : goal.overflow_cast-table
overflow_cast-table c =
    let low = c.requires.size_in_bounds.1 in
    omega (arith, c.loop-i.invariant.inside, low)

pub bounds-table-k : goal.bounds-table-k
bounds-table-k c =
    let o = c.requires.ordered in
    omega (arith, o.cells, o.few, here (goal.at.bounds-table-k c).In-loop-i, c.loop-i.invariant.table-size)

pub overflow_add-moved : goal.overflow_add-moved
overflow_add-moved c =
    let t = turned (goal.at.overflow_add-moved c).After-shift in
    let low = c.requires.size_in_bounds.1 in
    omega (arith, t.few, t.inside, low)

pub overflow_add-to : goal.overflow_add-to
overflow_add-to c =
    let t = turned (goal.at.overflow_add-to c).After-shift in
    let low = c.requires.size_in_bounds.1 in
    omega (arith, t.inside, low)

pub loop-i-smaller : goal.loop-i-smaller
loop-i-smaller c = omega (arith, here (goal.at.loop-i-smaller c).In-loop-i, c.loop-i-test.true)

pub loop-i-preserved : goal.loop-i-preserved
loop-i-preserved c = turned (goal.at.loop-i-preserved c).After-shift

pub shape_of-block : goal.shape_of-block
shape_of-block c = c.loop-i.invariant.block_size

pub shape_of-table : goal.shape_of-table
shape_of-table c = c.loop-i.invariant.table-size

pub returns : goal.returns
returns c =
    let s = c.requires in
    close-all s.ordered s.size_in_bounds.0 c.loop-i.invariant (omega (arith, c.loop-i-test.false))
