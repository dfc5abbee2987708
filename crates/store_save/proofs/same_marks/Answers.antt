-- In cells, or as the greeting is walked.
use native.Mathlib.Omega.{arith}
use Rattle.store_notes.proofs.Taken.{heard-few}
use Rattle.store_save.proofs.Small.{taken-small}
use Rattle.store_save.proofs.same_marks.Goals as goal

pub overflow_mul-head : goal.overflow_mul-head
overflow_mul-head c = let h = c.requires.heard in omega (arith, heard-few h, h.short)

pub marks_are-requires : goal.marks_are-requires
marks_are-requires c = let t = c.requires in (omega arith, taken-small t (omega arith))

pub returns-then-head-marks : goal.returns-then-head-marks
returns-then-head-marks c =
    rw (c.requires.marks-are (omega arith)) at c.marks_are.ensures
