use mathlib.Core.Path.{sym, ◌∙◌}
use native.Mathlib.Omega.{arith}
use Rattle.settings.proofs.Revisions.{is-spent, is-added}
use Rattle.settings.proofs.add.Goals as goal

pub returns-then-last : goal.returns-then-last
returns-then-last c = is-spent _ _ _ (sym c.last_of-last.ensures ∙ c.if-last.true)

pub returns : goal.returns
returns c =
    let l = c.last_of-last.ensures in
    rw l (is-added _ _ _ (omega (arith, l)) c.with_added.ensures)
