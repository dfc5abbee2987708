use Prim.Native.Nat.{ℕ, ◌*◌, ◌-◌, ◌≤◌}
use mathlib.Core.Path.{◌≡◌}
use Rattle.rules.specs.Bits.{bits_of, octets_for, fill_for}
use Rattle.rules.specs.Reading.{filled}
use Rattle.reader.proofs.filling.Given as goal

abbrev pub invariant-loop-at : goal.invariant-loop-at
invariant-loop-at l =
    (l.at ≤ 8 * octets_for l.end)
    × (filled {A = ℕ} 0 (fill_for l.end) (bits_of l.octets) l.end ≡ filled 0 (8 * octets_for l.end - l.at) (bits_of l.octets) l.at)
