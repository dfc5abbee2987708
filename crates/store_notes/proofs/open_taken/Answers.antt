-- Those that were taken (Taken), or as the greeting is walked once more.
use Prim.Native.Nat.{◌*◌}
use mathlib.Core.Path.{sym}
use native.Mathlib.Omega.{arith}
use lib.Seq.{length-take-le}
use Rattle.store_notes.proofs.Taken.{taken-cells}
use Rattle.store_notes.proofs.open_taken.Goals as goal

pub slice_bounds-open_up-end : goal.slice_bounds-open_up-end
slice_bounds-open_up-end c = let a = c.args in sym (length-take-le (2 * a.head.marks) a.marks.now (omega arith))

pub open_up-requires : goal.open_up-requires
open_up-requires c =
    let a = c.args in
    (omega arith, omega (arith, length-take-le (2 * a.head.marks) a.marks.now (omega arith)))

pub returns-then-by-marks : goal.returns-then-by-marks
returns-then-by-marks c =
    rw (taken-cells c.requires.2 (omega arith)) at c.open_up.ensures
