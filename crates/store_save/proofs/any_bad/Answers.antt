-- Greeting by greeting (Bad).
use mathlib.Core.Path.{sym, ap, ◌∙◌}
use mathlib.Core.List.{List}
use native.Mathlib.Omega.{arith}
use Rattle.store_rows.specs.declared.rows.Row.{Row}
use Rattle.store_rows.proofs.Left.{left-all}
use Rattle.store_save.specs.Steps.{bad_by}
use Rattle.store_save.proofs.Bad.{row_inside, bad-none, bad-here, bad-on}
use Rattle.store_save.proofs.any_bad.Goals as goal

pub loop-i-init : goal.loop-i-init
loop-i-init c =
    let a = c.args in
    ap (λ (l : List Row). bad_by a.block.now l a.laws.now) (sym (left-all a.cells.now a.n))

pub slice_bounds-is_bad-start : goal.slice_bounds-is_bad-start
slice_bounds-is_bad-start c =
    let a = c.args in
    omega (arith, row_inside a.cells.now a.size a.n _ c.row_at-r.ensures.0 (omega arith) c.requires.4)

pub slice_bounds-is_bad-end : goal.slice_bounds-is_bad-end
slice_bounds-is_bad-end c =
    let a = c.args in
    omega (arith, row_inside a.cells.now a.size a.n _ c.row_at-r.ensures.0 (omega arith) c.requires.4)

pub returns-then-is_bad : goal.returns-then-is_bad
returns-then-is_bad c =
    let a = c.args in
    let r = c.row_at-r.ensures.0 in
    bad-here a.block.now a.cells.now a.laws.now a.n c.loop-i.i r (omega arith) c.is_bad.ensures c.if-is_bad.true
    ∙ c.loop-i.invariant

pub loop-i-preserved : goal.loop-i-preserved
loop-i-preserved c =
    let a = c.args in
    let r = c.row_at-r.ensures.0 in
    let o = bad-on a.block.now a.cells.now a.laws.now a.n c.loop-i.i r (omega arith) c.is_bad.ensures
    c.if-is_bad.false in
    sym o ∙ c.loop-i.invariant

pub returns : goal.returns
returns c =
    let a = c.args in
    bad-none a.block.now a.cells.now a.laws.now a.n c.loop-i.i (omega arith) ∙ c.loop-i.invariant
