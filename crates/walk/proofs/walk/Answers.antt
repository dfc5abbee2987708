-- The guard refuses before any frame (Guards of rules); else the frames, as many as there are octets (Walk of rules).
use Prim.Native.Nat.{suc}
use mathlib.Core.Path.{sym, ◌∙◌}
use native.Mathlib.Omega.{arith}
use lib.ListN.{length}
use Rattle.rules.proofs.Guards.{walk_refused, walk-allowed}
use Rattle.rules.proofs.Walk.{walk-fuel}
use Rattle.walk.proofs.Keeping.{walks-none}
use Rattle.walk.proofs.walk.Goals as goal

pub returns-in-Err : goal.returns-in-Err
returns-in-Err c =
    let a = c.args in
    rw (walk_refused a.octets.now a.law a.set (length a.out.now) (sym c.guard_stream.ensures ∙ c.in-Err.is)) (walks-none _ _)

pub returns-in-Ok : goal.returns-in-Ok
returns-in-Ok c =
    let a = c.args in
    let n = length a.octets.now in
    let g = sym c.guard_stream.ensures ∙ c.in-Ok.is in
    rw (
      walk-allowed a.octets.now a.law a.set (length a.out.now) g,
      walk-fuel a.octets.now a.law
          a.set (suc n) n 0 (length a.out.now) (omega arith) (omega arith),
    ) c.keep_on.ensures
