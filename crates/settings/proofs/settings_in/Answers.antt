-- Line after line.
use mathlib.Core.Path.{◌∙◌}
use native.Mathlib.Omega.{arith}
use Rattle.settings.proofs.Lines.{no-law, no-set, no_block, no-greeting, more-after, all_read}
use Rattle.settings.proofs.settings_in.Goals as goal

pub returns-in_err-law : goal.returns-in_err-law
returns-in_err-law c = c.from_residual.ensures ∙ no-law _ (c.in_err-law.ensures)

pub returns-in_err-set : goal.returns-in_err-set
returns-in_err-set c = c.from_residual-in_err-set.ensures ∙ no-set _ (c.in_ok-law.ensures) (c.in_err-set.ensures)

pub returns-in_err-block : goal.returns-in_err-block
returns-in_err-block c = c.from_residual-in_err-block.ensures ∙ no_block _ (c.in_ok-law.ensures) (c.in_ok-set.ensures) (c.in_err-block.ensures)

pub returns-in_err-greeting : goal.returns-in_err-greeting
returns-in_err-greeting c =
    c.from_residual-in_err-greeting.ensures
    ∙ no-greeting _ (c.in_ok-law.ensures) (c.in_ok-set.ensures) (c.in_ok-block.ensures) (c.in_err-greeting.ensures)

pub returns-then-d-text : goal.returns-then-d-text
returns-then-d-text c =
    more-after _ (c.in_ok-law.ensures) (c.in_ok-set.ensures) (c.in_ok-block.ensures) (c.in_ok-greeting.ensures) (omega arith)

pub returns-else-d-text : goal.returns-else-d-text
returns-else-d-text c =
    all_read _ (c.in_ok-law.ensures) (c.in_ok-set.ensures) (c.in_ok-block.ensures) (c.in_ok-greeting.ensures) (omega arith)
