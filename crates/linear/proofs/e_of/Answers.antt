use Prim.Native.Nat.{◌/◌}
use native.Mathlib.Omega.{arith}
use lib.Count.{leading_le}
use Rattle.linear.specs.Equations.{e_of}
use Rattle.linear.proofs.Logs.{leading-digits}
use Rattle.linear.proofs.e_of.Goals as goal

pub overflow_sub-result : goal.overflow_sub-result
overflow_sub-result c = leading_le 32 (c.args.m / 64)

pub returns : goal.returns
unfolding e_of
returns c =
    let h = leading-digits (c.args.m / 64) (omega arith) in
    omega arith
