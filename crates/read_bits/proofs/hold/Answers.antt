-- A word is opened over the eight octets from the place on (InWord).
use Prim.Native.Nat.{◌/◌, ◌%◌}
use mathlib.Core.Path.{refl}
use native.Mathlib.Omega.{arith}
use Rattle.read_bits.proofs.InWord.{holds-none, holds_opened}
use Rattle.read_bits.proofs.hold.Goals as goal

pub returns-then-n-lt32 : goal.returns-then-n-lt32
returns-then-n-lt32 c = holds-none _ _ _ refl refl

pub returns : goal.returns
returns c =
    let at = c.args.at in
    holds_opened _ at _ (at / 8) (at % 8) c.whole_word.ensures (omega arith) (omega arith) (omega arith) (omega arith) (omega arith)
