-- Octets, then samples, beside those given.
use mathlib.Core.Path.{◌∙◌}
use Rattle.store_text.proofs.Marks.{is-unmarked, is-octets, is-samples, is-mark}
use Rattle.store_text.proofs.mark_is.Goals as goal
use Rattle.store_text.proofs.mark_is.Goals.{else-mark-octets-via-then-mark-octets+else-mark-samples, else-mark-octets-via-else-mark-octets}

pub returns-in_err-mark : goal.returns-in_err-mark
returns-in_err-mark c = c.from_residual.ensures ∙ is-unmarked _ _ _ _ (c.in_err-mark.ensures)

pub returns-then-mark-samples : goal.returns-then-mark-samples
returns-then-mark-samples c =
    is-mark _ _ _ _ c.requires.0 c.requires.1 (c.in_ok-mark.ensures) c.if-mark-octets.true c.if-mark-samples.true

pub returns-else-mark-octets : goal.returns-else-mark-octets
returns-else-mark-octets c =
    let e = (c.in_ok-mark.ensures) in
    elim c.else-mark-octets.branch [
      | else-mark-octets-via-then-mark-octets+else-mark-samples w ↦
          is-samples _ _ _ _ c.requires.0 c.requires.1 e w.if-mark-octets.true w.if-mark-samples.false
      | else-mark-octets-via-else-mark-octets w ↦ is-octets _ _ _ _ c.requires.0 c.requires.1 e w.if-mark-octets.false
    ]
