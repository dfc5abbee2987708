use native.Mathlib.Omega.{arith}
use borrow.Author.Tests.{le-leb, lt-leb}
use lib.ListN.{length-append}
use Rattle.rules.proofs.Octets.{length-low_bits}
use Rattle.write_zeros.proofs.start_bits.Goals as goal

pub returns-then-n-ge240 : goal.returns-then-n-ge240
returns-then-n-ge240 c = record { says = λ mark. rw (le-leb 240 _ c.if-n-ge240.true, length-append, length-low_bits); small = omega arith }

pub returns-else-n-ge240 : goal.returns-else-n-ge240
returns-else-n-ge240 c = record { says = λ mark. rw (lt-leb 240 _ c.if-n-ge240.false, length-append, length-low_bits); small = omega arith }
