use mathlib.Core.Path.{refl}
use native.Mathlib.Omega.{arith}
use Prim.Native.Nat.{◌+◌}
use lib.Seq.{length-take-le}
use Rattle.store_rows.proofs.Hopping.{all-written}
use Rattle.store_moves.proofs.Stepping.{step-lay}
use Rattle.store_moves.proofs.steps.lay.Goals as goal

pub returns : goal.returns
returns c =
    let a = c.args in
    let k = c.min-k.result in
    step-lay a.block.now a.spare.now a.m c.min-k.ensures refl
    (all-written a.block.now (a.m.to + a.m.done) c.copy_over.ensures.after
    (omega (arith, length-take-le k a.spare.now (omega (arith, c.min-k.ensures))))) c.grown.ensures
