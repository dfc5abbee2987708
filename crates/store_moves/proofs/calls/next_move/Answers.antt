use mathlib.Core.Path.{◌≡◌, ap}
use native.Mathlib.Omega.{arith}
use Prim.Native.Nat.{◌+◌, ◌*◌}
use lib.ListN.{length}
use Rattle.store_rows.specs.declared.rows.Row.{Row}
use Rattle.store_rows.specs.Cells.{rows_in, rows_at}
use Rattle.store_rows.proofs.Cells.{length-rows}
use Rattle.store_moves.specs.Steps.{Within}
use Rattle.store_moves.proofs.Calling.{looking-start, looking-end, looking_here, looking-row, looking-turn}
use Rattle.store_moves.proofs.calls.next_move.Goals as goal

pub loop-i-init : goal.loop-i-init
loop-i-init c =
    let a = c.args in
    let e : rows_in c.into_iter-i-iterator.result.iter.cells.now ≡ rows_at a.table.now a.n 1 =
    rw (c.into_iter-i-iterator.ensures.into_iter_gives, c.enumerate-i-items.ensures.source) c.greetings.ensures in
    let z : c.into_iter-i-iterator.result.count ≡ 0 = rw c.into_iter-i-iterator.ensures.into_iter_gives c.enumerate-i-items.ensures.count in
    record { looks = looking-start a.table.now a.n z e; all = omega (arith, z, ap length e, length-rows a.table.now a.n 1) }

pub returns-then-r-at : goal.returns-then-r-at
returns-then-r-at c =
    let e = c.in-Some.ensures.steps in
    let a = c.args in
    let i : c.loop-i.i-iterator.count ≡ c.in-Some.i = omega (arith, e) in
    rw i at (looking_here c.loop-i.invariant.looks e.0 (λ q. omega (arith, q)))

pub overflow_add-at : goal.overflow_add-at
overflow_add-at c =
    let k = 1 + 3 * c.loop-i.i-iterator.count in
    let q = looking-row c.loop-i.invariant.looks c.in-Some.ensures.steps.0 in
    omega (arith, ap (λ (r : Row). r.start) q, ap (λ (r : Row). r.octets) q, (c.type_inv.table (k + 1)).fits, (c.type_inv.table (k + 2)).fits)

pub loop-i-preserved : goal.loop-i-preserved
loop-i-preserved c =
    let e = c.in-Some.ensures.steps in
    record {
      looks = looking-turn c.loop-i.invariant.looks e.0 (omega (arith, e)) (omega arith);
      all = omega (arith, c.loop-i.invariant.all, ap length e.0, e);
    }

pub returns : goal.returns
unfolding Within
returns c = (looking-end c.loop-i.invariant.looks c.in-None.ensures.steps.0.0, tt)
