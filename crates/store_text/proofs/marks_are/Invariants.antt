use Rattle.store_text.proofs.Marks.{Compares}
use Rattle.store_text.proofs.marks_are.Given as goal

-- Mark by mark (Marks, Compares).
abbrev pub invariant-loop-j : goal.invariant-loop-j
invariant-loop-j l = Compares l.text l.at l.marks l.m l.i l.j
