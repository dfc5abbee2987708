-- A word, and two numbers with a word after each.
use mathlib.Core.Path.{sym, ap, ◌∙◌}
use native.Mathlib.Omega.{arith}
use Rattle.text_keyvalue.proofs.Lines.{word_fits}
use Rattle.store_text.specs.Noted.{mark_word}
use Rattle.store_text.specs.Passing.{as_mark}
use Rattle.store_text.proofs.Marks.{no-mark, mark-no-octets, mark-no-samples, mark-whole}
use Rattle.store_text.proofs.mark_at.Goals as goal

pub returns-then-not-has_word : goal.returns-then-not-has_word
returns-then-not-has_word c = no-mark _ _ (sym c.has_word.ensures ∙ c.if-not-has_word.true)

pub overflow_add-at : goal.overflow_add-at
overflow_add-at c =
    let a = c.args in
    omega (arith, word_fits mark_word a.text.now a.at (sym c.has_word.ensures ∙ c.if-not-has_word.false))

pub returns-in_err-octets : goal.returns-in_err-octets
returns-in_err-octets c =
    ap as_mark c.from_residual.ensures
    ∙ mark-no-octets _ _ (sym c.has_word.ensures ∙ c.if-not-has_word.false) (c.in_err-octets.ensures)

pub returns-in_err-samples : goal.returns-in_err-samples
returns-in_err-samples c =
    ap as_mark c.from_residual-in_err-samples.ensures
    ∙ mark-no-samples _ _ (sym c.has_word.ensures ∙ c.if-not-has_word.false) (c.in_ok-octets.ensures) (c.in_err-samples.ensures)

pub returns : goal.returns
returns c = mark-whole _ _ (sym c.has_word.ensures ∙ c.if-not-has_word.false) (c.in_ok-octets.ensures) (c.in_ok-samples.ensures)
