-- With the line, and without it.
use mathlib.Core.Path.{sym, ◌∙◌}
use Rattle.store_text.proofs.Formed.{form-taken, form-left}
use Rattle.store_text.proofs.form_of.Goals as goal

pub returns-then-has_word : goal.returns-then-has_word
returns-then-has_word c = form-taken _ (sym c.has_word.ensures ∙ c.if-has_word.true)

pub returns-else-has_word : goal.returns-else-has_word
returns-else-has_word c = form-left _ (sym c.has_word.ensures ∙ c.if-has_word.false)
