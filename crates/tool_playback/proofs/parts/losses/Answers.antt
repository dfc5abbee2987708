use mathlib.Core.Path.{◌≡◌, refl, ap, ◌∙◌}
use mathlib.Core.Bool.{Bool, true, false, cond}
use Prim.Native.Nat.{◌≤◌}
use mir.Val.{bool_byte}
use lib.ListN.{take, get_or}
use lib.Seq.{take_all}
use native.Mathlib.Omega.{arith}
use Rattle.rules.specs.Chooses.{count_of}
use Rattle.write_scan.proofs.Looking.{count-more}
use Rattle.tool_playback.specs.Parts.{is_loss, loss_cells}
use Rattle.tool_playback.proofs.parts.losses.Goals as goal

pub loop-cell-init : goal.loop-cell-init
unfolding count_of
loop-cell-init c = (omega arith, refl)

one : (b : Bool) → (bool_byte b ≡ cond b 1 0) × (bool_byte b ≤ 1)
one true = (refl, omega arith)
one false = (refl, omega arith)

pub loop-cell-preserved : goal.loop-cell-preserved
loop-cell-preserved c =
    let l = c.loop-cell in
    let b = one (is_loss (get_or c.args.cells.now l.cell-index 0)) in
    let e : c.from-count.result ≤ 1 = rw c.from-count.ensures b.1 in
    (omega arith, count-more c.args.cells.now l.cell-index (omega arith) is_loss l.invariant.1 (c.from-count.ensures ∙ b.0))

pub returns : goal.returns
returns c =
    let whole : take c.loop-cell.cell-index c.args.cells.now ≡ c.args.cells.now = take_all _ _ (omega arith) in
    c.loop-cell.invariant.1 ∙ ap loss_cells whole
