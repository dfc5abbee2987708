use Prim.Native.Nat.{ℕ, ◌<◌, ◌%◌}
use lib.Bits.{bit_xor}
use borrow.Author.Tests.{le-leb, lt-leb}
use native.Mathlib.Omega.{arith}
use mathlib.Core.Path.{◌≡◌}
use mir.Syntax.{w8}
use mir.Val.{to_z}
use mir.Facts.{to_z_pos, to_z-of_z}
use lib.IntN.{negsuc, pos, ◌-ℤ◌}
use Rattle.rules.specs.Samples.{signed}
use Rattle.rules.proofs.Signed.{turned-pos}
use Rattle.law.proofs.signed_of.Goals as goal

pub overflow_cast-y : goal.overflow_cast-y
overflow_cast-y c = record { sfits = omega arith }

-- y is its own signed number, and -1 - y is -y - 1
same : (y : ℕ) → y < 128 → to_z w8 y ≡ pos y
same y h = to_z_pos w8 h

turned : (y : ℕ) → y < 128 → negsuc 0 -ℤ to_z w8 y ≡ negsuc y
turned y h = rw (same y h) (turned-pos y)

pub overflow_sub-result : goal.overflow_sub-result
overflow_sub-result c = rw (turned (bit_xor c.args.sample c.args.mask % 128) (omega arith)) (record { sfits = omega arith })

pub returns-then-sample-ge128 : goal.returns-then-sample-ge128
unfolding signed
returns-then-sample-ge128 c =
    rw (le-leb 128 c.args.sample (omega (arith, c.if-sample-ge128.true)))
    (same (bit_xor c.args.sample c.args.mask % 128) (omega arith))

pub returns-else-sample-ge128 : goal.returns-else-sample-ge128
unfolding signed
returns-else-sample-ge128 c =
    let e = turned (bit_xor c.args.sample c.args.mask % 128) (omega arith) in
    rw (lt-leb 128 c.args.sample (omega (arith, c.if-sample-ge128.false)), e) (to_z-of_z {w = w8} (record { sfits = omega arith }))
