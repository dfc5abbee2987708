use native.Mathlib.Omega.{arith}
use Rattle.store_jump.proofs.Halving.{half_up, half_down}
use Rattle.store_jump.proofs.seeking.half.Goals as goal

pub returns-then-before-sample : goal.returns-then-before-sample
returns-then-before-sample c = half_up _ _ _ _ (omega arith)

pub returns : goal.returns
returns c = half_down _ _ _ _ (omega arith)
