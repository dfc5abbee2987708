-- The lines up to the law, and those after it.
use mathlib.Core.Path.{ap, ◌∙◌}
use Rattle.store_text.specs.Passing.{as_head}
use Rattle.store_text.proofs.Lines.{listed-no-head, listed-astray, listed-whole}
use Rattle.store_text.proofs.listed_at.Goals as goal

pub returns-in_err-head : goal.returns-in_err-head
returns-in_err-head c = ap as_head c.from_residual.ensures ∙ listed-no-head _ _ _ (c.in_err-head.ensures)

pub returns-in_err-b : goal.returns-in_err-b
returns-in_err-b c = ap as_head c.from_residual-in_err-b.ensures ∙ listed-astray _ _ _ (c.in_ok-head.ensures) (c.in_err-b.ensures)

pub returns : goal.returns
returns c = listed-whole _ _ _ (c.in_ok-head.ensures) (c.in_ok-b.ensures)
