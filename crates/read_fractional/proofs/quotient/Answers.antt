use native.Mathlib.Omega.{arith}
use Rattle.read_fractional.proofs.Laying.{div-as}
use Rattle.read_fractional.proofs.quotient.Goals as goal

pub returns-in-2 : goal.returns-in-2
returns-in-2 c = div-as _ c.in-2.is

pub returns-in-3 : goal.returns-in-3
returns-in-3 c = div-as _ c.in-3.is

pub returns-in-4 : goal.returns-in-4
returns-in-4 c = div-as _ c.in-4.is

pub returns-in-5 : goal.returns-in-5
returns-in-5 c = div-as _ c.in-5.is

pub returns-in_default : goal.returns-in_default
returns-in_default c = div-as _ (omega arith)
