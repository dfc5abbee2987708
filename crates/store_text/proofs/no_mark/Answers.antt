-- A mark more, or none.
use mathlib.Core.Path.{sym, ◌∙◌}
use Rattle.store_text.proofs.Marks.{is-more, is-end}
use Rattle.store_text.proofs.no_mark.Goals as goal

pub returns-then-has_word : goal.returns-then-has_word
returns-then-has_word c = is-more _ _ (sym c.has_word.ensures ∙ c.if-has_word.true)

pub returns-else-has_word : goal.returns-else-has_word
returns-else-has_word c = is-end _ _ (sym c.has_word.ensures ∙ c.if-has_word.false)
