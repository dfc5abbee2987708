use Prim.Native.Nat.{◌*◌}
use mathlib.Core.Path.{refl}
use lib.ListN.{length-set}
use native.Mathlib.Omega.{arith}
use Rattle.store_greeting.proofs.marks.keep.Goals as goal

pub bounds-marks-m-then-m-marks : goal.bounds-marks-m-then-m-marks
bounds-marks-m-then-m-marks c = let a = c.args in omega (arith, length-set a.marks.now (2 * a.m) a.at)

pub returns-then-m-marks : goal.returns-then-m-marks
returns-then-m-marks c = record { says = λ _. refl }

pub returns-else-m-marks : goal.returns-else-m-marks
returns-else-m-marks c = record { says = λ h. absurd (omega arith) }
