use Rattle.tool_words.specs.Names.{place_from, ending_at}
use lib.ListN.{length, drop}
use mathlib.Core.Path.{◌≡◌}
use Prim.Native.Nat.{◌≤◌}
use Rattle.tool_words.proofs.filenames.ending_at.Given as goal

abbrev pub invariant-loop-i : goal.invariant-loop-i
invariant-loop-i l = (l.place ≤ length l.name) × (ending_at l.name ≡ place_from (length l.name) l.place l.i (drop l.i l.name))
