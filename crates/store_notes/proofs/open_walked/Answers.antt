use Prim.Native.Nat.{◌*◌}
use mathlib.Core.Path.{refl}
use native.Mathlib.Omega.{arith}
use Rattle.store_notes.proofs.Taken.{walked-is}
use Rattle.store_notes.proofs.open_walked.Goals as goal

pub returns : goal.returns
returns c =
    let a = c.args in
    walked-is c.requires.2 a.cells.now a.at a.used (2 * a.head.marks) (omega arith) (omega arith) refl c.copy_within.ensures.len
    c.copy_within.ensures.after c.take.ensures refl
