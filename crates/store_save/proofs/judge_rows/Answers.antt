-- TABLE for the whole, then BAD (Judging).
use mathlib.Core.Path.{sym, ◌∙◌}
use native.Mathlib.Omega.{arith}
use Rattle.store_rows.specs.Cells.{rows_at}
use Rattle.store_rows.specs.Sane.{rising}
use Rattle.store_save.proofs.Judging.{not-apart, not-once, is-bad, is-fine}
use Rattle.store_save.proofs.judge_rows.Goals as goal

pub returns-then-not-rises : goal.returns-then-not-rises
returns-then-not-rises c = not-apart _ _ _ c.size_of-size.ensures c.rises.ensures (c.if-not-rises.true)

pub returns-then-not-distinct : goal.returns-then-not-distinct
returns-then-not-distinct c =
    not-once _ _ _ c.size_of-size.ensures c.rises.ensures (c.if-not-rises.false)
    c.distinct.ensures (c.if-not-distinct.true)

pub any_bad-requires : goal.any_bad-requires
any_bad-requires c =
    let s = c.size_of-size in
    let a = c.args in (
      omega arith,
      omega arith,
      omega arith,
      omega (arith, s.ensures),
      ◌∙◌ {a = rising 0 0 s.result (rows_at a.cells.now a.n 1)} (sym c.rises.ensures) (c.if-not-rises.false),
    )

pub returns-then-any_bad : goal.returns-then-any_bad
returns-then-any_bad c =
    is-bad _ _ _ c.size_of-size.ensures c.rises.ensures (c.if-not-rises.false)
    c.distinct.ensures (c.if-not-distinct.false) c.any_bad.ensures c.if-any_bad.true

pub returns-else-any_bad : goal.returns-else-any_bad
returns-else-any_bad c =
    is-fine _ _ _ c.size_of-size.ensures c.rises.ensures (c.if-not-rises.false)
    c.distinct.ensures (c.if-not-distinct.false) c.any_bad.ensures c.if-any_bad.false
