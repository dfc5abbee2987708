use native.Mathlib.Omega.{arith}
use Rattle.read_bits.proofs.Told.{told, refused, handed_on}
use Rattle.read_opening.proofs.Six.{six-refused, six-decided, at-least-six}
use Rattle.read_opening.proofs.six_or_eight.Goals as goal

pub overflow_cast-result : goal.overflow_cast-result
overflow_cast-result c = omega (arith, (told c.six_not_eight.ensures c.in_ok-t.was).value)

pub returns-in_err-t : goal.returns-in_err-t
returns-in_err-t c =
    rw (handed_on c.from_residual.result c.from_residual.ensures.1) record {
      says = six-refused c.args.octets.now
          c.args.n _
          c.mark_at-m.ensures.0 (omega arith)
          (refused c.six_not_eight.ensures c.in_err-t.was);
      ranges = tt;
    }

pub returns : goal.returns
returns c =
    record {
      says = six-decided c.args.octets.now
          c.args.n _
          c.mark_at-m.ensures.0 (omega arith)
          _ c.bit_at-mark.ensures.0
          (told c.six_not_eight.ensures c.in_ok-t.was).says;
      ranges = (
        record {
          len = c.requires.0;
          mark = omega (arith, c.bit_at-mark.ensures.1);
          at = omega arith;
          whole-octet = λ h. absurd
              (omega (
                arith,
                at-least-six c.args.octets.now
                    _ (omega arith) (told c.six_not_eight.ensures c.in_ok-t.was).says,
              ));
        },
        omega arith,
      );
    }
