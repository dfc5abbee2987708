-- Three lines, then the law.
use mathlib.Core.Path.{ap, ◌∙◌}
use Rattle.store_text.specs.Passing.{as_head}
use Rattle.store_text.proofs.Lines.{head-no-row, head-no-law, head-whole}
use Rattle.store_text.proofs.head_at.Goals as goal

pub returns-in_err-line : goal.returns-in_err-line
returns-in_err-line c = ap as_head c.from_residual.ensures ∙ head-no-row _ _ _ (c.in_err-line.ensures)

pub returns-in_err-law : goal.returns-in_err-law
returns-in_err-law c = ap as_head c.from_residual-in_err-law.ensures ∙ head-no-law _ _ _ (c.in_ok-line.ensures) (c.in_err-law.ensures)

pub returns : goal.returns
returns c = head-whole _ _ _ (c.in_ok-line.ensures) (c.in_ok-law.ensures)
