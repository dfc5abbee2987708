use Prim.Native.Nat.{◌≤◌}
use mathlib.Core.Path.{◌≡◌}
use lib.ListN.{take}
use Rattle.tool_playback.specs.Parts.{loss_cells}
use Rattle.tool_playback.proofs.parts.losses.Given as goal

abbrev pub invariant-loop-cell : goal.invariant-loop-cell
invariant-loop-cell l = (l.count ≤ l.cell-index) × (l.count ≡ loss_cells (take l.cell-index l.cells))
