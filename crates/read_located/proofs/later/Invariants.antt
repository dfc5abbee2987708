use Prim.Native.Nat.{◌+◌}
use lib.ListN.{length}
use Rattle.read_located.proofs.InTurn.{InTurn}
use Rattle.read_located.proofs.later.Given as goal

-- Each turn lays one value (InTurn).
abbrev pub invariant-loop-x : goal.invariant-loop-x
invariant-loop-x l =
    InTurn l.octets l.at l.n l.plus l.xs (length l.xs) l.initial.cells l.cells l.marks l.empty l.place (l.x-index + 1)
