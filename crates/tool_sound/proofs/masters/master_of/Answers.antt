use native.Mathlib.Omega.{arith}
use mathlib.Core.Path.{ap}
use Rattle.std.specs.Prelude.{slice_index}
use Rattle.tool_sound.proofs.Pairs.{master-turn}
use Rattle.tool_sound.proofs.masters.master_of.Goals as goal

pub loop-i-preserved : goal.loop-i-preserved
loop-i-preserved c =
    let a = c.args in
    let e = c.pair_for.ensures in
    rw c.loop-i.invariant (master-turn a.law a.sound.now a.out.now c.loop-i.i (omega arith) (omega arith)
    (ap (λ l. slice_index l 0) e) (ap (λ l. slice_index l 1) e))
