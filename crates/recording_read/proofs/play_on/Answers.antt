-- Each turn takes one item (Playing); the measure is how many items more are allowed.
use Prim.Native.Nat.{◌+◌, ◌≤◌, ◌<◌}
use mathlib.Core.Path.{refl}
use native.Mathlib.Omega.{arith}
use lib.ListN.{length, length-take, length-drop}
use Rattle.rules.proofs.Lent.{lent_length}
use Rattle.recording_read.proofs.Turning.{sound-put}
use Rattle.recording_read.proofs.Playing.{play-start, play-last, play-ended, play-full, play-refused, play-fits, play-turn}
use Rattle.recording_read.proofs.play_on.Goals.{then-loop-count-test+else-place-octets, else-loop-count-test, Then-place-octets, In-Ok}
use Rattle.recording_read.proofs.play_on.Goals as goal

-- there is an item to look at
module _ (c : Then-place-octets) where
  here : c.loop-count.place < length c.args.octets.now
  here = c.if-place-octets.true

pub loop-count-init : goal.loop-count-init
loop-count-init c = play-start _ _ _ _ _ _ _ refl

pub shape_of-out-then-cells-count : goal.shape_of-out-then-cells-count
shape_of-out-then-cells-count c = lent_length c.loop-count.invariant.kept

pub shape_of-cells-then-cells-count : goal.shape_of-cells-then-cells-count
shape_of-cells-then-cells-count c = lent_length c.loop-count.invariant.told

pub returns-then-cells-count : goal.returns-then-cells-count
returns-then-cells-count c =
    rw c.so_far.ensures (play-full _ _ _ _ _ _ _ c.loop-count.invariant (omega arith)
    (here (goal.at.returns-then-cells-count c).Then-place-octets) c.if-cells-count.true)

pub overflow_sub-out : goal.overflow_sub-out
overflow_sub-out c = let w = c.loop-count.invariant in omega (arith, w.kept.room, lent_length w.kept)

pub item_at-requires : goal.item_at-requires
item_at-requires c = (here (goal.at.item_at-requires c).Then-place-octets, c.loop-count.invariant.size)

-- an item that was looked at
module _ (c : In-Ok) where
  fits : (c.loop-count.place + c.in-Ok.turn.octets ≤ length c.args.octets.now)
      × (c.in-Ok.turn.len ≤ length c.item_at.new.samples) × (c.loop-count.to + c.in-Ok.turn.len ≤ length c.loop-count.out)
  fits = play-fits _ _ _ _ _ _ _ c.loop-count.invariant (omega arith) c.if-place-octets.true c.if-cells-count.false c.in-Ok.ensures

pub shape_of-out-in-Err : goal.shape_of-out-in-Err
shape_of-out-in-Err c = lent_length c.loop-count.invariant.kept

pub shape_of-cells-in-Err : goal.shape_of-cells-in-Err
shape_of-cells-in-Err c = lent_length c.loop-count.invariant.told

pub returns-in-Err : goal.returns-in-Err
returns-in-Err c =
    rw c.so_far-in-Err.ensures
    (play-refused _ _ _ _ _ _ _ c.loop-count.invariant (omega arith) (here (goal.at.returns-in-Err c).Then-place-octets)
    c.if-cells-count.false c.in-Err.ensures)

pub overflow_add-to : goal.overflow_add-to
overflow_add-to c = omega (arith, (fits (goal.at.overflow_add-to c).In-Ok).2, lent_length c.loop-count.invariant.kept)

pub slice_bounds-copy_over-end : goal.slice_bounds-copy_over-end
slice_bounds-copy_over-end c = (fits (goal.at.slice_bounds-copy_over-end c).In-Ok).2

pub slice_bounds-copy_over-end-in-Ok : goal.slice_bounds-copy_over-end-in-Ok
slice_bounds-copy_over-end-in-Ok c =
    let f = fits (goal.at.slice_bounds-copy_over-end-in-Ok c).In-Ok in
    omega (arith, length-take c.in-Ok.turn.len c.item_at.new.samples, f.1)

pub slice_bounds-samples-end : goal.slice_bounds-samples-end
slice_bounds-samples-end c = (fits (goal.at.slice_bounds-samples-end c).In-Ok).1

pub copy_over-requires : goal.copy_over-requires
copy_over-requires c =
    let f = fits (goal.at.copy_over-requires c).In-Ok in
    simp (length-take, length-drop) (omega (arith, f.1, f.2))

pub overflow_add-place : goal.overflow_add-place
overflow_add-place c = omega (arith, (fits (goal.at.overflow_add-place c).In-Ok).0)

pub overflow_add-count : goal.overflow_add-count
overflow_add-count c = omega (arith)

pub loop-count-smaller : goal.loop-count-smaller
loop-count-smaller c = omega arith

pub loop-count-preserved : goal.loop-count-preserved
loop-count-preserved c =
    play-turn _ _ _ _ _ _ _ c.loop-count.invariant (omega arith) (here (goal.at.loop-count-preserved c).Then-place-octets)
    c.if-cells-count.false c.in-Ok.ensures (sound-put _ _ _ _ _ c.copy_over.ensures.after)

pub shape_of-out : goal.shape_of-out
shape_of-out c = lent_length c.loop-count.invariant.kept

pub shape_of-cells : goal.shape_of-cells
shape_of-cells c = lent_length c.loop-count.invariant.told

pub returns : goal.returns
returns c =
    let w = c.loop-count.invariant in
    elim c.loop-count-test.branch [
      | then-loop-count-test+else-place-octets t ↦ rw c.so_far-2.ensures (play-ended _ _ _ _ _ _ _ w (omega arith))
      | else-loop-count-test t ↦ rw c.so_far-2.ensures (play-last _ _ _ _ _ _ _ w (omega arith))
    ]
