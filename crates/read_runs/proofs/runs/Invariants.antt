use Prim.Native.Nat.{◌-◌}
use Rattle.rules.specs.Bits.{bits_of}
use Rattle.read_runs.specs.Reached.{Filled}
use Rattle.read_runs.proofs.runs.Given as goal

-- Each turn reads the runs of one word, or one run that no word holds whole (Turn); the measure is the places left.
abbrev pub invariant-loop-run : goal.invariant-loop-run
invariant-loop-run l =
    Filled (bits_of l.octets) l.at l.n l.s l.d l.common l.other l.initial.cells l.cells l.filled l.count l.place

abbrev pub decreases-loop-run : goal.decreases-loop-run
decreases-loop-run l = l.d - l.filled
