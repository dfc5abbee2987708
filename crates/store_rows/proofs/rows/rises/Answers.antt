use mathlib.Core.Path.{sym, ap, ◌∙◌}
use native.Mathlib.Omega.{arith}
use mathlib.Core.List.{List}
use Rattle.store_rows.specs.declared.rows.Row.{Row}
use Rattle.store_rows.specs.Sane.{rising}
use Rattle.store_rows.proofs.Rising.{Next, rising-turn, rising-stops}
use Rattle.store_rows.proofs.rows.rises.Goals.{then-r-end-via-then-r-end, then-r-end-via-else-r-end+then-r-least}
use Rattle.store_rows.proofs.rows.rises.Goals.{then-r-end-via-else-r-end+else-r-least+then-size-r}
use Rattle.store_rows.proofs.rows.rises.Goals.{then-r-end-via-else-r-end+else-r-least+else-size-r+then-size-r-2}
use Rattle.store_rows.proofs.rows.rises.Goals as goal

pub returns-then-r-end : goal.returns-then-r-end
returns-then-r-end c =
    let a = c.args in
    let never : Next a.least c.loop-r.end a.size c.in-Some.r → ⊥ =
    λ n. elim c.then-r-end.branch [
      | then-r-end-via-then-r-end w ↦ omega (arith, n.above)
      | then-r-end-via-else-r-end+then-r-least w ↦ omega (arith, n.some)
      | then-r-end-via-else-r-end+else-r-least+then-size-r w ↦ omega (arith, n.inside)
      | then-r-end-via-else-r-end+else-r-least+else-size-r+then-size-r-2 w ↦ omega (arith, n.inside)
    ]
    in
    sym (c.loop-r.invariant ∙ ap (λ (x : List Row). rising a.least c.loop-r.end a.size x) c.in-Some.ensures.steps
    ∙ rising-stops _ never)

pub loop-r-preserved : goal.loop-r-preserved
loop-r-preserved c =
    let a = c.args in
    c.loop-r.invariant ∙ ap (λ (x : List Row). rising a.least c.loop-r.end a.size x) c.in-Some.ensures.steps
    ∙ rising-turn _ (record { above = omega arith; some = omega arith; inside = omega arith })

pub returns : goal.returns
unfolding rising
returns c = sym (c.loop-r.invariant ∙ ap (λ (x : List Row). rising c.args.least c.loop-r.end c.args.size x) c.in-None.ensures.steps.0)
