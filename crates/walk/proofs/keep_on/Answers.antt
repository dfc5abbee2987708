-- Each turn keeps one frame (Keeping); the measure is how many frames more are allowed.
use Prim.Native.Nat.{◌+◌, ◌-◌, ◌≤◌}
use mathlib.Core.Path.{◌≡◌, ◌∙◌}
use native.Mathlib.Omega.{arith}
use native.Mathlib.Nat.{le_of_lt}
use lib.ListN.{length, drop, length-drop}
use Rattle.std.proofs.Common.{Ok}
use Rattle.rules.proofs.Lent.{lent_length}
use Rattle.walk.proofs.Told.{Bounds}
use Rattle.walk.proofs.Along.{along-ended, along-last}
use Rattle.walk.proofs.Keeping.{keep-start, keep-size, keeps, keep-refused, keep-bounds, keep-turn}
use Rattle.walk.proofs.keep_on.Goals.{After-step-r}
use Rattle.walk.proofs.keep_on.Goals as goal

-- a frame that was kept
module _ (c : After-step-r) (e : c.step-r.result.end ≡ Ok tt) where
  bounds : Bounds (drop c.frames.place
      c.args.octets.now)
      (length c.args.out.now - c.frames.to)
      c.step-r.result
  bounds =
      keep-bounds _ _ _ _ _ _ c.frames.invariant.0 c.if-frames-count.false
      c.if-octets-place.false
      c.step-r.ensures e

  inside : c.frames.place + c.step-r.result.octets ≤ length
      c.args.octets.now
  inside =
      omega (
        arith,
        bounds.inside,
        c.if-octets-place.false,
        length-drop c.frames.place
            c.args.octets.now,
      )

pub frames-init : goal.frames-init
frames-init c = (keep-start _ _ _ _ _ _, omega arith)

pub step-r-requires : goal.step-r-requires
step-r-requires c =
    let w = c.frames.invariant.0 in
    (le_of_lt c.if-octets-place.false, omega (arith, w.kept.room, lent_length w.kept))

pub overflow_add-place : goal.overflow_add-place
overflow_add-place c =
    omega (arith, inside (goal.at.overflow_add-place c).After-step-r c.in-Ok.is)

pub overflow_add-used : goal.overflow_add-used
overflow_add-used c =
    omega (
      arith,
      inside (goal.at.overflow_add-used c).After-step-r c.in-Ok.is,
      c.frames.invariant.1,
    )

pub overflow_add-to : goal.overflow_add-to
overflow_add-to c =
    omega (
      arith,
      (bounds (goal.at.overflow_add-to c).After-step-r c.in-Ok.is).fits,
      c.frames.invariant.0.kept.room,
    )

pub frames-smaller : goal.frames-smaller
frames-smaller c = omega (arith, c.if-frames-count.false)

pub frames-preserved : goal.frames-preserved
frames-preserved c = (
  keep-turn _ _ _ _ _ _ c.frames.invariant.0 c.if-frames-count.false
      c.if-octets-place.false c.step-r.ensures c.in-Ok.is,
  omega (arith, c.frames.invariant.1),
)

pub shape_of-out-then-frames-count : goal.shape_of-out-then-frames-count
shape_of-out-then-frames-count c = lent_length c.frames.invariant.0.kept

pub returns-then-frames-count : goal.returns-then-frames-count
returns-then-frames-count c =
    let w = c.frames.invariant.0 in
    let u : c.frames.used ≡ c.frames.place - c.args.at =
    omega (arith, c.frames.invariant.1) in
    rw u (keeps _ _ _ _ _ _ w (along-last _ _ _ _ _ _ w.along (keep-size _ _ _ _ _ _ w) c.if-frames-count.true))

pub shape_of-out-then-octets-place : goal.shape_of-out-then-octets-place
shape_of-out-then-octets-place c = lent_length c.frames.invariant.0.kept

pub returns-then-octets-place : goal.returns-then-octets-place
returns-then-octets-place c =
    let w = c.frames.invariant.0 in
    let u : c.frames.used ≡ c.frames.place - c.args.at
    = omega (arith, c.frames.invariant.1) in
    rw u (keeps _ _ _ _ _ _ w (along-ended _ _ _ _ _ _ w.along (keep-size _ _ _ _ _ _ w) c.if-octets-place.true))

pub shape_of-out-in-Err : goal.shape_of-out-in-Err
shape_of-out-in-Err c =
    c.step-r.auto.out ∙ lent_length c.frames.invariant.0.kept

pub returns-in-Err : goal.returns-in-Err
returns-in-Err c =
    let u : c.frames.used ≡ c.frames.place - c.args.at
    = omega (arith, c.frames.invariant.1) in
    rw u (keep-refused _ _ _ _ _ _ c.frames.invariant.0 c.if-frames-count.false
    c.if-octets-place.false c.step-r.ensures c.in-Err.why c.in-Err.is)
