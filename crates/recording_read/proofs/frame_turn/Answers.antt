-- A frame as it was passed, judged a loss or sound (Turning).
use Prim.Native.Nat.{◌≤◌}
use mathlib.Core.Path.{sym, ◌∙◌}
use native.Mathlib.Omega.{arith}
use lib.ListN.{length, drop, length-take}
use Rattle.rules.specs.Frame.{read_one}
use Rattle.reader.proofs.Told.{buffer-has}
use Rattle.recording_read.proofs.Turning.{frame-sound, frame-lost, frame-refused}
use Rattle.recording_read.proofs.frame_turn.Goals.{After-pass-r}
use Rattle.recording_read.proofs.frame_turn.Goals as goal

-- the frame was passed: the buffer has its samples
module _ (c : After-pass-r) where
  has : c.pass-r.result.len ≤ length c.pass-r.new.samples
  has = buffer-has {found = read_one (drop c.args.at c.args.octets.now) c.args.law c.args.set c.args.room}
      c.pass-r.ensures

  few : c.pass-r.result.len ≤ 320
  few = omega (arith, has, c.pass-r.ensures.size)

pub returns-in-Err : goal.returns-in-Err
returns-in-Err c = frame-refused _ c.in-Err.why c.pass-r.ensures c.in-Err.is

pub is_erased-requires : goal.is_erased-requires
is_erased-requires c =
    omega (arith, length-take c.pass-r.result.len c.pass-r.new.samples, few (goal.at.is_erased-requires c).After-pass-r)

pub lost_turn-requires : goal.lost_turn-requires
lost_turn-requires c = omega (arith, few (goal.at.lost_turn-requires c).After-pass-r)

pub returns-then-is_erased : goal.returns-then-is_erased
returns-then-is_erased c =
    rw c.lost_turn.ensures (frame-lost _ c.pass-r.ensures c.in_default.is (sym c.is_erased.ensures ∙ c.if-is_erased.true))

pub overflow_cast-result : goal.overflow_cast-result
overflow_cast-result c = omega (arith, few (goal.at.overflow_cast-result c).After-pass-r)

pub returns : goal.returns
returns c = frame-sound _ c.pass-r.ensures c.in_default.is (sym c.is_erased.ensures ∙ c.if-is_erased.false)
