use native.Mathlib.Omega.{arith}
use Rattle.tool_sound.proofs.Pairs.{sound-turn}
use Rattle.tool_sound.proofs.masters.sound_of.Goals as goal

pub loop-i-preserved : goal.loop-i-preserved
loop-i-preserved c =
    let a = c.args in
    rw c.loop-i.invariant (sound-turn a.law a.master.now a.out.now c.loop-i.i _ (omega arith) (omega arith) c.sample_for.ensures)
