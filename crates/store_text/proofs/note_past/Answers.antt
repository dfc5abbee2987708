-- Samples, then marks.
use mathlib.Core.Path.{◌∙◌}
use Rattle.store_text.proofs.Marks.{note-no-samples, note-marks}
use Rattle.store_text.proofs.note_past.Goals as goal

pub returns-in_err-a : goal.returns-in_err-a
returns-in_err-a c = c.from_residual.ensures ∙ note-no-samples _ _ _ (c.in_err-a.ensures)

pub returns : goal.returns
returns c = note-marks _ _ _ (c.in_ok-a.ensures) c.marks_past.ensures
