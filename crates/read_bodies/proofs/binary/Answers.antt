-- N flags, each marked by its zero (TwoZeros).
use native.Mathlib.Omega.{arith}
use Rattle.rules.specs.Zeros.{zero_of}
use Rattle.read_bits.proofs.Told.{handed_on}
use Rattle.read_runs.proofs.Answer.{marks-told, marks-told-refused}
use Rattle.read_bodies.proofs.Poured.{fills-refused}
use Rattle.read_bodies.proofs.TwoZeros.{zeros-filled}
use Rattle.read_bodies.proofs.binary.Goals as goal

pub returns-in_err-next : goal.returns-in_err-next
returns-in_err-next c =
    rw (handed_on c.from_residual.result c.from_residual.ensures.1)
    (fills-refused (rw (marks-told-refused c.straight.ensures c.in_err-next.was)) c.straight.ensures.room)

pub returns : goal.returns
returns c =
    let m = marks-told c.straight.ensures c.in_ok-next.was in
    zeros-filled (zero_of c.args.mask 0) m c.zero_of-common.ensures
    c.zero_of-other.ensures (λ flags e. rw e) (omega arith) (omega arith)
