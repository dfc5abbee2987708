use Prim.Native.Nat.{ℕ, ◌+◌, ◌-◌}
use mathlib.Core.Path.{◌≡◌, ap, ◌∙◌}
use native.Mathlib.Omega.{arith}
use lib.ListN.{take, drop}
use Rattle.store_rows.proofs.Hopping.{hop-all}
use Rattle.store_rows.proofs.closing.hop.Goals as goal

pub returns : goal.returns
returns c =
    let s = c.args in
    let z : s.from + 64 - s.from ≡ 64 = omega arith in
    let lifted = c.copy_over.ensures.after ∙ ap (λ (y : ℕ). take y (drop s.from s.block.now)) z in
    hop-all s.block.now (drop s.from s.block.now) s.to 64 (c.copy_over-2.ensures.after ∙ lifted) (omega arith)
