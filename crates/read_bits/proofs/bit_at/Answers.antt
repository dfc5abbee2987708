-- Bit i of octets is bit i % 8 of octet i / 8, highest first (Octets.bits_of-at).
use native.Mathlib.Omega.{arith}
use mathlib.Core.Path.{sym}
use Rattle.rules.proofs.Octets.{bits_of-at}
use Rattle.read_bits.proofs.bit_at.Goals as goal

pub returns : goal.returns
returns c = (rw c.from.ensures (sym (bits_of-at _ _ (omega arith))), omega arith)
