-- The guard refuses before any frame; else the frames, as many as there are octets (Checked).
use mathlib.Core.Path.{◌≡◌, sym, ◌∙◌}
use native.Mathlib.Omega.{arith}
use lib.ListN.{length}
use borrow.Author.Tests.{leb-true}
use Rattle.std.proofs.Common.{Ok}
use Rattle.rules.specs.Refusals.{verdict}
use Rattle.rules.specs.Walk.{longest, walk_asks}
use Rattle.rules.proofs.Guards.{all-met}
use Rattle.walk_check.proofs.Checked.{check-refused, check-allowed, counts-none}
use Rattle.walk_check.proofs.check.Goals.{After-guard_stream}
use Rattle.walk_check.proofs.check.Goals as goal

-- nothing refuses before the frames
module _ (c : After-guard_stream) (e : c.guard_stream.result ≡ Ok tt) where
  allowed : verdict (walk_asks c.args.law c.args.set (length c.args.octets.now)) ≡ Ok tt
  allowed = sym c.guard_stream.ensures ∙ e

pub overflow_mul-octets : goal.overflow_mul-octets
overflow_mul-octets c =
    let n = length c.args.octets.now in
    omega (
      arith,
      leb-true n longest
          (all-met (walk_asks c.args.law c.args.set n) (allowed (goal.at.overflow_mul-octets c).After-guard_stream c.in-Ok.is)).1.1.0,
    )

pub returns-in-Err : goal.returns-in-Err
returns-in-Err c =
    let a = c.args in
    rw (check-refused a.octets.now a.law a.set (sym c.guard_stream.ensures ∙ c.in-Err.is)) (counts-none _)

pub returns-in-Ok : goal.returns-in-Ok
returns-in-Ok c =
    let a = c.args in
    rw (check-allowed a.octets.now a.law a.set (allowed (goal.at.returns-in-Ok c).After-guard_stream c.in-Ok.is)) c.walk_on.ensures
