-- The codes of one word (Word).
use mathlib.Core.Path.{refl}
use native.Mathlib.Omega.{arith}
use Rattle.read_runs.proofs.Word.{in-word-none, in-word-turn, in-word-last, in-word-ends}
use Rattle.read_runs.proofs.several.Goals as goal

pub loop-zeros-init : goal.loop-zeros-init
loop-zeros-init c = in-word-none _ _ _ _ _ _ c.hold-held.ensures (omega arith) (omega arith) (omega arith)

pub overflow_add-p : goal.overflow_add-p
overflow_add-p c =
    omega (arith, c.run_in.ensures.1)

pub returns-then-d-p : goal.returns-then-d-p
returns-then-d-p c =
    let v = c.run_in.ensures in
    rw v.0 (in-word-last c.loop-zeros.invariant c.zeros_in-zeros.ensures.0 (omega arith) (omega arith) (omega arith) refl (omega arith))

pub loop-zeros-preserved : goal.loop-zeros-preserved
loop-zeros-preserved c =
    let i = c.loop-zeros.invariant in
    let z = c.zeros_in-zeros.ensures in
    let v = c.run_in.ensures in
    in-word-turn i z.0 (omega arith) (omega arith) (omega arith) v.0 (omega arith)

pub returns : goal.returns
returns c = in-word-ends c.loop-zeros.invariant
