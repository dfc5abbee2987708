use Rattle.store_text.specs.Noted.{listed_text}
use Rattle.store_text.specs.Held.{held_in}
use Rattle.store_text.proofs.Writing.{Putting, Within, text_left}
use Rattle.store_text.proofs.put_all.Given as goal

-- Greeting by greeting, each behind those before it (Writing, Putting).
abbrev pub invariant-loop-i : goal.invariant-loop-i
invariant-loop-i l = Within l.heads l.marks l.n l.from l.i
    × Putting (listed_text (held_in l.table l.heads l.marks l.n)) (text_left l.table l.heads l.marks l.n l.from l.i) l.initial.out l.start l.out l.at
