-- A number, and a word after it.
use mathlib.Core.Path.{sym, ap, ◌∙◌}
use native.Mathlib.Omega.{arith}
use Rattle.text_keyvalue.specs.Reading.{as_read}
use Rattle.text_keyvalue.proofs.Lines.{word_fits}
use Rattle.store_text.proofs.Marks.{then-no-number, then-no-word, then-whole}
use Rattle.store_text.proofs.number_then.Goals as goal

pub returns-in_err-n : goal.returns-in_err-n
returns-in_err-n c = ap as_read c.from_residual.ensures ∙ then-no-number _ _ _ (c.in_err-n.ensures)

pub overflow_add-result : goal.overflow_add-result
overflow_add-result c =
    let a = c.args in
    omega (
      arith,
      word_fits a.word.now a.text.now c.in_ok-n.end
          (sym c.has_word.ensures ∙ c.if-has_word.true),
    )

pub returns-then-has_word : goal.returns-then-has_word
returns-then-has_word c = then-whole _ _ _ (c.in_ok-n.ensures) (sym c.has_word.ensures ∙ c.if-has_word.true)

pub returns-else-has_word : goal.returns-else-has_word
returns-else-has_word c = then-no-word _ _ _ (c.in_ok-n.ensures) (sym c.has_word.ensures ∙ c.if-has_word.false)
