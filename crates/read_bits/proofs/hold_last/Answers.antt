-- A word is opened over the last eight octets, or over all where they are fewer (InWord).
use Prim.Native.Nat.{◌*◌, ◌-◌, ◌/◌, ◌%◌}
use lib.ListN.{length}
use mathlib.Core.Path.{refl}
use native.Mathlib.Omega.{arith}
use Rattle.read_bits.proofs.InWord.{holds-none, holds_opened}
use Rattle.read_bits.proofs.hold_last.Goals as goal

pub returns-then-size-i : goal.returns-then-size-i
returns-then-size-i c = holds-none _ _ _ refl refl

pub returns-then-size-lt8 : goal.returns-then-size-lt8
returns-then-size-lt8 c =
    let at = c.args.at in
    holds_opened _ at _ (at / 8) (at % 8) c.part_word.ensures (omega arith) (omega arith) (omega arith) (omega arith) (omega arith)

pub returns : goal.returns
returns c =
    let g = c.args in
    let from = length g.octets.now - 8 in
    holds_opened _ g.at _ from (g.at - 8 * from) c.whole_word.ensures (omega arith) (omega arith) (omega arith)
    (omega arith) (omega arith)
