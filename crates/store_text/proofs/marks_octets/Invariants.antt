use Prim.Native.Nat.{◌*◌}
use Rattle.store_notes.specs.Cells.{marks_in}
use Rattle.store_text.specs.Noted.{marks_text}
use Rattle.store_text.proofs.Writing.{Counting}
use Rattle.store_text.proofs.Writing.{marks_left}
use Rattle.store_text.proofs.marks_octets.Given as goal

-- Counted mark by mark (Writing, Counting).
abbrev pub invariant-loop-j : goal.invariant-loop-j
invariant-loop-j l = Counting (marks_text (marks_in l.m l.cells)) (marks_left l.cells l.m l.j) l.sum (27 * l.j)
