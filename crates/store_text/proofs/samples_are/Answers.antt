-- Those of the text beside those given.
use mathlib.Core.Path.{◌∙◌}
use Rattle.store_text.proofs.Marks.{is_none, is-other, is_same}
use Rattle.store_text.proofs.samples_are.Goals as goal

pub returns-in_err-n : goal.returns-in_err-n
returns-in_err-n c = c.from_residual.ensures ∙ is_none _ _ _ (c.in_err-n.ensures)

pub returns-then-n-samples : goal.returns-then-n-samples
returns-then-n-samples c = is_same _ _ _ c.requires (c.in_ok-n.ensures) c.if-n-samples.true

pub returns-else-n-samples : goal.returns-else-n-samples
returns-else-n-samples c = is-other _ _ _ c.requires (c.in_ok-n.ensures) c.if-n-samples.false
