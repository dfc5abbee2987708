use Rattle.store_notes.specs.Cells.{marks_in}
use Rattle.store_text.specs.Noted.{marks_text}
use Rattle.store_text.proofs.Writing.{Putting}
use Rattle.store_text.proofs.Writing.{marks_left}
use Rattle.store_text.proofs.put_marks.Given as goal

-- Mark by mark, each behind those before it (Writing, Putting).
abbrev pub invariant-loop-j : goal.invariant-loop-j
invariant-loop-j l = Putting (marks_text (marks_in l.m l.cells)) (marks_left l.cells l.m l.j) l.initial.out l.at l.out l.end
