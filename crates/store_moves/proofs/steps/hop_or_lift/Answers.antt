use Prim.Native.Nat.{◌+◌, ◌-◌}
use mathlib.Core.Path.{refl}
use native.Mathlib.Omega.{arith}
use lib.ListN.{drop, length-drop}
use lib.Seq.{length-take-le}
use Rattle.store_rows.proofs.Hopping.{all-written}
use Rattle.store_moves.proofs.Stepping.{step-direct, step-lift}
use Rattle.store_moves.proofs.steps.hop_or_lift.Goals as goal

pub returns-then-size-d : goal.returns-then-size-d
returns-then-size-d c =
    let a = c.args in
    step-direct a.block.now a.spare.now a.m (omega arith) c.min-k.ensures c.shift.ensures c.grown.ensures

pub returns : goal.returns
returns c =
    let a = c.args in
    let t = c.requires in
    let from = a.m.from + a.m.done in
    let n = from + c.min.result - from in
    let long = length-take-le n (drop from a.block.now) (omega (arith, c.min.ensures, length-drop from a.block.now, t.inside, t.some)) in
    step-lift a.block.now a.spare.now a.m t (omega arith) c.min.ensures refl
    (all-written a.spare.now 0 c.copy_over.ensures.after (omega (arith, long)))
