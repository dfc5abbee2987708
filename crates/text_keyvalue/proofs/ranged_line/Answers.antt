use mathlib.Core.Path.{ap, ◌∙◌}
use native.Mathlib.Omega.{arith}
use Rattle.text_keyvalue.specs.Reading.{as_read}
use Rattle.text_keyvalue.proofs.Numbers.{told}
use Rattle.text_keyvalue.proofs.Lines.{ranged-none, ranged-low, ranged-high, ranged-whole}
use Rattle.text_keyvalue.proofs.ranged_line.Goals as goal
use Rattle.text_keyvalue.proofs.ranged_line.Goals.{else-low-n-via-then-low-n+else-n-high, else-low-n-via-else-low-n}

pub returns-in_err-n : goal.returns-in_err-n
returns-in_err-n c = ap as_read c.from_residual.ensures ∙ ranged-none _ _ _ _ _ (omega arith) (told c.in_err-n.was c.line_at.ensures)

pub returns-then-n-high : goal.returns-then-n-high
returns-then-n-high c =
    ranged-whole _ _ _ _ _ (omega arith) (told c.in_ok-n.was c.line_at.ensures) (omega arith) (omega arith)

pub returns-else-low-n : goal.returns-else-low-n
returns-else-low-n c =
    let t = told c.in_ok-n.was c.line_at.ensures in
    elim c.else-low-n.branch [
      | else-low-n-via-then-low-n+else-n-high w ↦ ranged-high _ _ _ _ _ (omega arith) t (omega arith)
      | else-low-n-via-else-low-n w ↦ ranged-low _ _ _ _ _ (omega arith) t (omega arith)
    ]
