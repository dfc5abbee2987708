use Rattle.rules.specs.Listing.{line_end}
use mathlib.Core.Path.{sym, ap, ◌∙◌}
use native.Mathlib.Omega.{arith}
use Rattle.text_keyvalue.specs.Reading.{as_read}
use Rattle.text_keyvalue.proofs.Numbers.{told}
use Rattle.text_keyvalue.proofs.Lines.{word_fits, line-no-key, line-no-number, line-no-end, line-whole}
use Rattle.text_keyvalue.proofs.line_at.Goals as goal

pub returns-then-not-has_word : goal.returns-then-not-has_word
returns-then-not-has_word c = line-no-key _ _ _ (sym c.has_word.ensures ∙ c.if-not-has_word.true)

pub overflow_add-at : goal.overflow_add-at
overflow_add-at c =
    omega (arith, word_fits c.args.key.now c.args.text.now c.args.at (sym c.has_word.ensures ∙ c.if-not-has_word.false))

pub returns-in_err-n : goal.returns-in_err-n
returns-in_err-n c =
    ap as_read c.from_residual.ensures
    ∙ line-no-number _ _ _ (sym c.has_word.ensures ∙ c.if-not-has_word.false)
    (told c.in_err-n.was c.number_at.ensures)

pub overflow_add-result : goal.overflow_add-result
overflow_add-result c =
    omega (arith, word_fits line_end c.args.text.now c.in_ok-n.end (sym c.has_word-2.ensures ∙ c.if-has_word.true))

pub returns-then-has_word : goal.returns-then-has_word
returns-then-has_word c =
    line-whole _ _ _ (sym c.has_word.ensures ∙ c.if-not-has_word.false)
    (told c.in_ok-n.was c.number_at.ensures)
    (sym c.has_word-2.ensures ∙ c.if-has_word.true)

pub returns-else-has_word : goal.returns-else-has_word
returns-else-has_word c =
    line-no-end _ _ _ (sym c.has_word.ensures ∙ c.if-not-has_word.false)
    (told c.in_ok-n.was c.number_at.ensures)
    (sym c.has_word-2.ensures ∙ c.if-has_word.false)
