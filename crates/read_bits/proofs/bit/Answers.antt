-- A bit is there, or missing (OneBit).
use mathlib.Core.Path.{sym}
use native.Mathlib.Omega.{arith}
use Rattle.read_bits.proofs.OneBit.{bit-there, bit-missing}
use Rattle.read_bits.proofs.bit.Goals as goal

pub returns-then-octets-at : goal.returns-then-octets-at
returns-then-octets-at c = record { says = sym (bit-missing _ _ c.if-octets-at.true); value = omega arith; next = omega arith }

pub returns-else-octets-at : goal.returns-else-octets-at
returns-else-octets-at c =
    let b = c.bit_at.ensures in
    record { says = rw b.0 (sym (bit-there _ _ c.if-octets-at.false)); value = omega arith; next = omega arith }
