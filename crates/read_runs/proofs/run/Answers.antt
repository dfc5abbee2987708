-- The Rice code, and whether so many places are left.
use mathlib.Core.Path.{sym}
use native.Mathlib.Omega.{arith}
use Rattle.read_bits.proofs.Told.{told, refused, stopped, handed_on}
use Rattle.read_runs.specs.Flagged.{one_run}
use Rattle.read_runs.proofs.Turn.{run_long, run_fits}
use Rattle.read_runs.proofs.run.Goals as goal

pub returns-in_err-v : goal.returns-in_err-v
unfolding one_run
returns-in_err-v c =
    rw (handed_on c.from_residual.result c.from_residual.ensures.1) (stopped (rw (refused c.rice.ensures c.in_err-v.was)))

pub returns-then-left-v : goal.returns-then-left-v
returns-then-left-v c = stopped (run_long _ _ _ _ _ (told c.rice.ensures c.in_ok-v.was).says (omega arith))

pub returns-else-left-v : goal.returns-else-left-v
returns-else-left-v c =
    let v = told c.rice.ensures c.in_ok-v.was in
    record { says = sym (run_fits _ _ _ _ _ v.says (omega arith)); value = omega arith; next = v.next }
