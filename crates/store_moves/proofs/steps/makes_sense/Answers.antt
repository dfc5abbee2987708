use mathlib.Core.Path.{sym, ◌∙◌}
use mathlib.Core.Logic.{inl, inr}
use native.Mathlib.Omega.{arith}
use borrow.Author.Tests.{leb-false}
use Rattle.std.proofs.Common.{rules, tests}
use Rattle.store_moves.specs.Record.{sensible}
use Rattle.store_moves.proofs.Worded.{not-down, not-inside}
use Rattle.store_moves.proofs.steps.makes_sense.Goals.{then-m-size, else-m-size}
use Rattle.store_moves.proofs.steps.makes_sense.Goals as goal

pub returns-then-m-size-2 : goal.returns-then-m-size-2
unfolding sensible
returns-then-m-size-2 c = search (rules, tests)

pub returns-else-m-size-2 : goal.returns-else-m-size-2
returns-else-m-size-2 c =
    let a = c.args in
    let no = c.if-m-size-2.false in
    no ∙ elim c.if-m-size.branch [
      | then-m-size w ↦ not-inside a.size a.m w.if-m-size.true.0 (omega (arith, w.if-m-size.true, leb-false _ _ (sym w.value-is ∙ no)))
      | else-m-size w ↦ elim w.if-m-size.either [
        | inl p ↦ not-inside a.size a.m p.0 (omega (arith, p))
        | inr q ↦ not-down a.size a.m q
      ]
    ]
