use Rattle.std.proofs.Common.{◌≡◌, ◌+◌, ◌*◌, ◌≤◌, length, take}
use Rattle.rules.specs.Runs.{rice_forms}
use Rattle.write_measure.proofs.run_bits.Given as goal

abbrev pub invariant-loop-v : goal.invariant-loop-v
invariant-loop-v l =
    (l.zeros + l.v-index * (1 + l.s) ≡ length (rice_forms l.s (take l.v-index l.runs))) × (l.zeros ≤ 65536 * l.v-index)
