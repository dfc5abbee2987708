use native.Mathlib.Omega.{arith}
use mathlib.Core.Path.{sym, ◌∙◌}
use Rattle.read_bits.proofs.Told.{told, refused, stopped, handed_on}
use Rattle.read_opening.proofs.Six.{six-at-once, second-missing, six-by-second, eight}
use Rattle.read_opening.proofs.six_not_eight.Goals as goal

pub returns-then-bit_at-eq1 : goal.returns-then-bit_at-eq1
returns-then-bit_at-eq1 c = record {
  says = sym (six-at-once _ _ (omega arith) (sym c.bit_at.ensures.0 ∙ c.if-bit_at-eq1.true));
  value = omega arith;
  next = omega arith;
}

pub returns-in_err-second : goal.returns-in_err-second
returns-in_err-second c =
    rw (handed_on c.from_residual.result c.from_residual.ensures.1)
    (stopped (second-missing _ _ (omega arith) (λ e. c.if-bit_at-eq1.false (c.bit_at.ensures.0 ∙ e)) (refused c.bit.ensures c.in_err-second.was)))

pub returns-then-second-eq1 : goal.returns-then-second-eq1
returns-then-second-eq1 c =
    let t = told c.bit.ensures c.in_ok-second.was in
    record {
      says = sym (six-by-second _ _ (omega arith) (λ e. c.if-bit_at-eq1.false (c.bit_at.ensures.0 ∙ e)) t.says c.if-second-eq1.true);
      value = omega arith;
      next = omega (arith, t.next);
    }

pub returns-else-second-eq1 : goal.returns-else-second-eq1
returns-else-second-eq1 c =
    let t = told c.bit.ensures c.in_ok-second.was in
    record {
      says = sym (eight _ _ (omega arith) (λ e. c.if-bit_at-eq1.false (c.bit_at.ensures.0 ∙ e)) t.says c.if-second-eq1.false);
      value = omega arith;
      next = omega (arith, t.next);
    }
