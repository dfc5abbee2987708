use native.Mathlib.Omega.{arith}
use Prim.Native.Nat.{◌<◌}
use mathlib.Core.Path.{◌≡◌, refl, ◌∙◌}
use Rattle.settings.proofs.Telling.{kept-turn, kept-whole}
use Rattle.settings.proofs.tells.kept.Goals as goal

pub loop-k-preserved : goal.loop-k-preserved
loop-k-preserved c =
    let below : c.loop-k.k < 8 = omega arith in
    rw c.loop-k.invariant (kept-turn _ _ c.loop-k.k _ refl below (c.from.ensures ∙ c.number_at.ensures))

pub returns : goal.returns
returns c =
    let end : c.loop-k.k ≡ 8 = omega arith in
    rw c.loop-k.invariant (kept-whole _ _ c.gather.ensures refl end)
