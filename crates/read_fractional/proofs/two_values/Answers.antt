-- N flags, each marked by its value (Bitwise).
use mathlib.Core.Path.{refl}
use native.Mathlib.Omega.{arith}
use lib.ListN.{get_or}
use Rattle.read_bits.proofs.Told.{handed_on}
use Rattle.read_runs.proofs.Answer.{marks-told, marks-told-refused}
use Rattle.read_bodies.proofs.Poured.{fills-refused}
use Rattle.read_bodies.proofs.TwoZeros.{zeros-filled}
use Rattle.read_fractional.proofs.Bitwise.{bits-whole, bits-refused}
use Rattle.read_fractional.proofs.two_values.Goals as goal

pub returns-in_err-next : goal.returns-in_err-next
returns-in_err-next c =
    let e = marks-told-refused c.straight.ensures c.in_err-next.was in
    rw (handed_on c.from_residual.result c.from_residual.ensures.1)
    (fills-refused (bits-refused c.args.values.now c.args.octets.now c.args.n c.args.at e) c.straight.ensures.room)

pub returns : goal.returns
returns c =
    let values = c.args.values.now in
    let m = marks-told c.straight.ensures c.in_ok-next.was in
    zeros-filled (λ d. get_or values d 0) m refl refl (λ flags e. bits-whole values c.args.octets.now c.args.n c.args.at e)
    (omega arith) (omega arith)
