use mathlib.Core.Path.{◌≡◌}
use lib.ListN.{length}
use Rattle.store_save.proofs.Storing.{Storing}
use Rattle.store_save.proofs.store_notes.Given as goal

-- Note by note (Storing).
abbrev pub invariant-loop-i : goal.invariant-loop-i
invariant-loop-i l = (length l.table ≡ length l.initial.table) × Storing l.block l.cells l.laws l.n l.size l.initial.table l.table l.i
