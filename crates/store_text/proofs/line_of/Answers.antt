-- Three lines, one after another.
use mathlib.Core.Path.{ap, ◌∙◌}
use Rattle.store_text.specs.Fills.{as_row}
use Rattle.store_text.proofs.Lines.{no-prompt, no_start, no-octets, row-whole}
use Rattle.store_text.proofs.line_of.Goals as goal

pub returns-in_err-number : goal.returns-in_err-number
returns-in_err-number c = ap as_row c.from_residual.ensures ∙ no-prompt _ _ _ (c.in_err-number.ensures)

pub returns-in_err-start : goal.returns-in_err-start
returns-in_err-start c = ap as_row c.from_residual-in_err-start.ensures ∙ no_start _ _ _ (c.in_ok-number.ensures) (c.in_err-start.ensures)

pub returns-in_err-octets : goal.returns-in_err-octets
returns-in_err-octets c =
    ap as_row c.from_residual-in_err-octets.ensures
    ∙ no-octets _ _ _ (c.in_ok-number.ensures) (c.in_ok-start.ensures) (c.in_err-octets.ensures)

pub returns : goal.returns
returns c = row-whole _ _ _ (c.in_ok-number.ensures) (c.in_ok-start.ensures) (c.in_ok-octets.ensures)
