-- Each turn reads a window of at most 32 flags (Gathered).
use native.Mathlib.Omega.{arith}
use Rattle.rules.proofs.Octets.{bits_of-below}
use Rattle.read_bits.proofs.Told.{told, refused, handed_on}
use Rattle.read_runs.proofs.Gathered.{window-small, gathered_none, gathered-all, gathered-refused, gathered-turn}
use Rattle.read_runs.proofs.straight.Goals as goal

pub loop-filled-init : goal.loop-filled-init
loop-filled-init c = gathered_none _ _ _ _ _ _ (omega arith) (omega arith)

pub returns-in_err-v : goal.returns-in_err-v
returns-in_err-v c =
    rw (handed_on c.from_residual.result c.from_residual.ensures.1)
    (gathered-refused c.loop-filled.invariant c.min-n.ensures (refused c.number.ensures c.in_err-v.was))

pub overflow_cast-count : goal.overflow_cast-count
overflow_cast-count c =
    let v = told c.number.ensures c.in_ok-v.was in
    let s = window-small v.value (omega arith) in
    omega (arith, c.loop-filled.invariant)

pub overflow_add-count : goal.overflow_add-count
overflow_add-count c =
    let v = told c.number.ensures c.in_ok-v.was in
    let s = window-small v.value (omega arith) in
    omega (arith, c.loop-filled.invariant)

pub loop-filled-preserved : goal.loop-filled-preserved
loop-filled-preserved c =
    let v = told c.number.ensures c.in_ok-v.was in
    gathered-turn c.loop-filled.invariant c.min-n.ensures
    (bits_of-below _) v.says v.value v.next c.spread.ensures

pub returns : goal.returns
returns c = gathered-all c.loop-filled.invariant (omega arith)
