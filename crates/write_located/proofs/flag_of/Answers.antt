use mathlib.Core.Bool.{Bool, cond}
use mathlib.Core.Path.{sym, ap}
use borrow.Author.Tests.{le-leb, lt-leb}
use native.Mathlib.Omega.{arith}
use Rattle.write_located.proofs.flag_of.Goals as goal

pub returns-then-below-above : goal.returns-then-below-above
returns-then-below-above c = let s = c.args in
    (ap (λ (t : Bool). cond t 1 0) (sym (le-leb s.below s.above (omega (arith, c.if-below-above.true)))), omega arith)

pub returns-else-below-above : goal.returns-else-below-above
returns-else-below-above c = let s = c.args in
    (ap (λ (t : Bool). cond t 1 0) (sym (lt-leb s.below s.above (omega (arith, c.if-below-above.false)))), omega arith)
