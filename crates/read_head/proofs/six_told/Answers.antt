-- The bits that decide are missing, or it is one of the two (Headed).
use Prim.Native.Nat.{ℕ, ◌+◌}
use native.Mathlib.Omega.{arith}
use mathlib.Core.Path.{ap}
use Rattle.read_bits.proofs.Told.{told, refused}
use Rattle.read_head.proofs.Headed.{heads-as, six-refused, six-told}
use Rattle.read_head.proofs.six_told.Goals as goal

pub overflow_cast-t : goal.overflow_cast-t
overflow_cast-t c = omega (arith, (told c.six_not_eight.ensures c.in-Ok.is).value)

pub returns-in-Err : goal.returns-in-Err
returns-in-Err c = λ i.
    heads-as (six-refused _ _ _ i c.args.octets.now (ap (λ (x : ℕ). x + 1) c.mark_at.ensures.0)
    (refused c.six_not_eight.ensures c.in-Err.is)) (c.refused.ensures _)

pub returns-in-Ok : goal.returns-in-Ok
returns-in-Ok c = λ i.
    heads-as (six-told _ _ _ i c.args.octets.now (ap (λ (x : ℕ). x + 1) c.mark_at.ensures.0)
    (told c.six_not_eight.ensures c.in-Ok.is).says) (c.by_tool.ensures _ _)
