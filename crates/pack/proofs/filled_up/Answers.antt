use mathlib.Core.Path.{refl}
use native.Mathlib.Omega.{arith}
use Rattle.pack.proofs.filled_up.Goals as goal

pub returns-then-fill : goal.returns-then-fill
returns-then-fill c = record {
  filled = rw c.if-fill.true c.fill_up.ensures;
  most = omega
      (arith, c.fill_up.ensures.added);
}

pub returns : goal.returns
returns c = record { filled = rw c.if-fill.false (refl, refl); most = omega arith }
