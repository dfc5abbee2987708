use Prim.Native.Nat.{◌+◌, ◌≤◌, ◌<◌}
use mathlib.Core.Path.{◌≡◌, refl}
use native.Mathlib.Omega.{arith}
use native.Mathlib.Nat.{le_of_lt}
use lib.ListN.{length, drop, length-drop}
use Rattle.std.proofs.Common.{Ok}
use Rattle.walk.proofs.Told.{Bounds}
use Rattle.store_jump.proofs.Along.{seek-start, seek-ended, seek-last, seek-refused, seek-bounds, seek_found, seek-turn}
use Rattle.store_jump.proofs.seeking.seek_on.Goals.{Then-place-octets, After-pass-r}
use Rattle.store_jump.proofs.seeking.seek_on.Goals as goal

-- there is a frame to read
here : (c : Then-place-octets) → c.loop-n.place < length c.args.octets.now
here c = c.if-place-octets.true

-- a frame that was passed
module _ (c : After-pass-r) (e : c.pass-r.result.end ≡ Ok tt) where
  bounds : Bounds (drop c.loop-n.place
      c.args.octets.now) c.loop-n.left
      c.pass-r.result
  bounds = seek-bounds _ _ _ _ _ _ c.loop-n.invariant (omega arith) (c.if-place-octets.true)
      c.pass-r.ensures.tells e

  inside : c.loop-n.place + c.pass-r.result.octets
      ≤ length c.args.octets.now
  inside =
      omega (arith, bounds.inside, (c.if-place-octets.true), length-drop c.loop-n.place c.args.octets.now)

pub loop-n-init : goal.loop-n-init
loop-n-init c = seek-start _ _ _ _ _ _ (omega arith) refl

pub pass-r-requires : goal.pass-r-requires
pass-r-requires c = (le_of_lt (here (goal.at.pass-r-requires c).Then-place-octets), c.loop-n.invariant.size)

pub returns-in-Err : goal.returns-in-Err
returns-in-Err c =
    seek-refused _ _ _ _ _ _ c.loop-n.invariant (omega arith) (here (goal.at.returns-in-Err c).Then-place-octets)
    c.pass-r.ensures.tells _ c.in-Err.is

pub overflow_add-passed : goal.overflow_add-passed
overflow_add-passed c =
    omega (arith, (bounds (goal.at.overflow_add-passed c).After-pass-r c.in-Ok.is).fits, c.loop-n.invariant.room)

pub overflow_sub-result : goal.overflow_sub-result
overflow_sub-result c = c.loop-n.invariant.behind

pub returns-then-sample-passed : goal.returns-then-sample-passed
returns-then-sample-passed c =
    seek_found _ _ _ _ _ _ c.loop-n.invariant (omega arith) (here (goal.at.returns-then-sample-passed c).Then-place-octets)
    c.pass-r.ensures.tells c.in-Ok.is (omega arith)

pub overflow_add-place : goal.overflow_add-place
overflow_add-place c =
    omega (arith, inside (goal.at.overflow_add-place c).After-pass-r c.in-Ok.is)

pub overflow_sub-left : goal.overflow_sub-left
overflow_sub-left c = (bounds (goal.at.overflow_sub-left c).After-pass-r c.in-Ok.is).fits

pub overflow_add-passed-in-Ok : goal.overflow_add-passed-in-Ok
overflow_add-passed-in-Ok c =
    omega (
      arith,
      (bounds (goal.at.overflow_add-passed-in-Ok c).After-pass-r c.in-Ok.is).fits,
      c.loop-n.invariant.room,
    )

pub loop-n-smaller : goal.loop-n-smaller
loop-n-smaller c = omega arith

pub loop-n-preserved : goal.loop-n-preserved
loop-n-preserved c =
    seek-turn _ _ _ _ _ _ c.loop-n.invariant (omega arith) (here (goal.at.loop-n-preserved c).Then-place-octets)
    c.pass-r.ensures.tells c.in-Ok.is (omega arith) c.pass-r.ensures.size

pub returns-else-place-octets : goal.returns-else-place-octets
returns-else-place-octets c = seek-ended _ _ _ _ _ _ c.loop-n.invariant c.if-place-octets.false

pub returns-after-loop-n : goal.returns-after-loop-n
returns-after-loop-n c = seek-last _ _ _ _ _ _ c.loop-n.invariant (omega arith)
