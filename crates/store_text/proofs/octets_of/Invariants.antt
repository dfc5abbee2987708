use Prim.Native.Nat.{◌*◌}
use Rattle.store_text.specs.Noted.{listed_text}
use Rattle.store_text.specs.Held.{held_in}
use Rattle.store_text.proofs.Writing.{Counting, Within}
use Rattle.store_text.proofs.Writing.{text_left}
use Rattle.store_text.proofs.octets_of.Given as goal

-- Counted greeting by greeting (Writing, Counting).
abbrev pub invariant-loop-i : goal.invariant-loop-i
invariant-loop-i l = Within l.heads l.marks l.n l.from l.i
    × Counting (listed_text (held_in l.table l.heads l.marks l.n)) (text_left l.table l.heads l.marks l.n l.from l.i) l.sum (115964117079 * l.i)
