-- Each turn passes one frame (Along); the measure is how many frames more are allowed.
use Prim.Native.Nat.{◌+◌, ◌≤◌, ◌<◌}
use mathlib.Core.Path.{◌≡◌, refl}
use native.Mathlib.Omega.{arith}
use native.Mathlib.Nat.{le_of_lt}
use lib.ListN.{length, drop, length-drop}
use Rattle.std.proofs.Common.{Ok}
use Rattle.walk.proofs.Told.{Bounds}
use Rattle.walk.proofs.Along.{along-start, along-ended, along-last, along-refused, along-bounds, along-turn}
use Rattle.walk.proofs.walk_on.Goals.{Then-place-octets, After-measure-r, then-loop-passed-test+else-place-octets, else-loop-passed-test}
use Rattle.walk.proofs.walk_on.Goals as goal

-- there is a frame to read
here : (c : Then-place-octets) → c.loop-passed.place < length c.args.octets.now
here c = c.if-place-octets.true

-- a frame that was passed
module _ (c : After-measure-r) (e : c.measure-r.result.end ≡ Ok tt) where
  bounds : Bounds (drop c.loop-passed.place
      c.args.octets.now) c.loop-passed.left
      c.measure-r.result
  bounds = along-bounds _ _ _ _ _ _ c.loop-passed.invariant.along (omega arith) c.if-place-octets.true
      c.measure-r.ensures.tells e

  inside : c.loop-passed.place + c.measure-r.result.octets ≤ length
      c.args.octets.now
  inside = omega (
    arith,
    bounds.inside,
    c.if-place-octets.true,
    length-drop c.loop-passed.place
        c.args.octets.now,
  )

pub loop-passed-init : goal.loop-passed-init
loop-passed-init c = record { done = _; along = along-start _ _ _ _ _ _; size = refl }

pub measure-r-requires : goal.measure-r-requires
measure-r-requires c = (le_of_lt (here (goal.at.measure-r-requires c).Then-place-octets), c.loop-passed.invariant.size)

pub returns-in-Err : goal.returns-in-Err
returns-in-Err c =
    (along-refused _ _ _ _ _ _ c.loop-passed.invariant.along refl (omega arith) (here (goal.at.returns-in-Err c).Then-place-octets)
    c.measure-r.ensures.tells c.in-Err.why c.in-Err.is).1

pub overflow_add-place : goal.overflow_add-place
overflow_add-place c = omega (
  arith,
  inside (goal.at.overflow_add-place c).After-measure-r c.in-Ok.is,
)

pub overflow_sub-left : goal.overflow_sub-left
overflow_sub-left c = (bounds (goal.at.overflow_sub-left c).After-measure-r c.in-Ok.is).fits

pub loop-passed-smaller : goal.loop-passed-smaller
loop-passed-smaller c = omega arith

pub loop-passed-preserved : goal.loop-passed-preserved
loop-passed-preserved c =
    let w = c.loop-passed.invariant.along in
    record {
      done = _;
      along = along-turn _ _ _ _ _ _ w (omega arith) (here (goal.at.loop-passed-preserved c).Then-place-octets) c.measure-r.ensures.tells
          c.in-Ok.is refl;
      size = c.measure-r.ensures.size;
    }

pub returns : goal.returns
returns c =
    let w = c.loop-passed.invariant.along in
    elim c.loop-passed-test.branch [
      | then-loop-passed-test+else-place-octets t ↦ (along-ended _ _ _ _ _ _ w refl (omega arith)).1
      | else-loop-passed-test t ↦ (along-last _ _ _ _ _ _ w refl (omega arith)).1
    ]
