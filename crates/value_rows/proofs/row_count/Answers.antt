use mathlib.Core.Path.{refl}
use borrow.Author.Tests.{ne_eqb}
use native.Mathlib.Omega.{arith}
use Rattle.rules.specs.Fractional.{row_count}
use Rattle.value_rows.proofs.row_count.Goals as goal

pub returns-in-40 : goal.returns-in-40
unfolding row_count
returns-in-40 c = (rw c.in-40.is refl, omega arith)

pub returns-in-80 : goal.returns-in-80
unfolding row_count
returns-in-80 c = (rw c.in-80.is refl, omega arith)

pub returns-in_default : goal.returns-in_default
unfolding row_count
returns-in_default c = let n = c.args.n in (rw (ne_eqb n 40 (omega arith), ne_eqb n 80 (omega arith)) refl, omega arith)
