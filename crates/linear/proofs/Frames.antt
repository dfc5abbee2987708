-- A frame that is converted or refused: which ending when (frame_refused, frame-done).
use Prim.Native.Nat.{ℕ}
use mathlib.Core.Path.{◌≡◌}
use mathlib.Core.Logic.{◌↔◌}
use Rattle.std.proofs.Common.{Ok, Err}
use Rattle.rules.specs.declared.Refusal.{Refusal}
use Rattle.rules.proofs.Judged.{AllMet, First, judged-passes, judged-refuses}
use Rattle.rules.proofs.Guards.{endings}
use Rattle.linear.specs.Calls.{frame_asks, judged}

-- each ending exactly: a refusal where it is the first that fails, and none where nothing does
module _ (law n room : ℕ) where
  pub frame_refused : (w : Refusal) → (judged law n room ≡ Err w) ↔ First w (frame_asks law n room)
  frame_refused w = judged-refuses endings (frame_asks law n room) w

  pub frame-done : (judged law n room ≡ Ok tt) ↔ AllMet (frame_asks law n room)
  frame-done = judged-passes endings (frame_asks law n room)
