-- The code that the next bits begin with is read as a number of its bits (Codes' Begun), and that is cut or there (Bits' Cut, Window).
use native.Mathlib.Omega.{arith}
use Rattle.read_bits.proofs.Cut.{number_cut}
use Rattle.read_bits.proofs.Window.{number-there}
use Rattle.s_codes.proofs.Begun.{found_number}
use Rattle.read_bodies.proofs.code_of_s.Goals as goal

pub returns-then-octets-end : goal.returns-then-octets-end
returns-then-octets-end c =
    let a = c.args in
    let ahead = c.next_bits.ensures in
    let f = c.s_in-found.ensures in
    record {
      says = rw (
        c.missing.ensures,
        found_number f ahead.small _ a.at ahead.same,
        number_cut a.octets.now
            0 _ a.at f.some (omega arith),
      );
      value = omega arith;
      next = omega arith;
    }

pub returns-else-octets-end : goal.returns-else-octets-end
returns-else-octets-end c =
    let a = c.args in
    let ahead = c.next_bits.ensures in
    let f = c.s_in-found.ensures in
    let k = c.s_in-found.result.bits in
    record {
      says = rw (found_number f ahead.small _ a.at ahead.same, number-there a.octets.now 0 k a.at (omega arith));
      value = f.most;
      next = let few = f.few in omega arith;
    }
