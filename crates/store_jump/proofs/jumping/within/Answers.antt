use Prim.Native.Nat.{◌+◌, ◌*◌}
use mathlib.Core.Path.{refl}
use native.Mathlib.Omega.{arith}
use Rattle.store_jump.proofs.Steps.{in-beyond, in-none, in-from}
use Rattle.store_jump.proofs.jumping.within.Goals as goal

pub returns-then-head-sample : goal.returns-then-head-sample
returns-then-head-sample c =
    let a = c.args in
    in-beyond a.head a.octets.now a.marks.now a.sample (omega arith)

pub returns-then-head-lt1 : goal.returns-then-head-lt1
returns-then-head-lt1 c =
    let a = c.args in
    in-none a.head a.octets.now a.marks.now a.sample (omega arith) (omega arith)

pub from_mark-requires : goal.from_mark-requires
from_mark-requires c =
    let last = c.last_mark-k in
    (omega (arith, last.ensures.1), omega (arith, c.shared_slice_known-4-1.given (2 * last.result + 1)))

pub returns : goal.returns
returns c =
    let last = c.last_mark-k.ensures in
    let a = c.args in
    in-from a.head a.octets.now a.marks.now a.sample (omega arith) (omega arith) last.0 last.1 refl
    refl c.from_mark.ensures
