-- Item after item, each alone in its part (Running); the measure is how many are left.
use native.Mathlib.Omega.{arith}
use mathlib.Core.Path.{refl, ◌∙◌}
use borrow.Author.Tests.{not-false}
use Rattle.tool_playback.proofs.Running.{number-most, heard-most, at_most, follows_on, sums}
use Rattle.tool_playback.proofs.telling.tell.Goals as goal

pub loop-left-init : goal.loop-left-init
loop-left-init c = (c.requires.1, omega arith, omega arith)

pub bounds-one-0 : goal.bounds-one-0
bounds-one-0 c =
    omega (arith, c.next_part-p.auto.cells, c.loop-left.invariant.2)

pub say_item-requires : goal.say_item-requires
say_item-requires c =
    let w = c.loop-left.invariant in
    let p = c.requires in (
      at_most _ _ w.0,
      record {
        follows = w.0;
        page = _;
        page' = _;
        lent = _;
        cells = _;
        room = w.1;
        place = w.2;
        is = c.next_part-p.ensures.next_part;
        told = refl;
      },
      sums _ _ w.0 p.0 p.2.small,
      p.2,
    )

pub overflow_add-here : goal.overflow_add-here
overflow_add-here c =
    let w = c.loop-left.invariant.0 in
    omega (arith, number-most _ _ w, c.next_part-p.ensures.goes.few (at_most _ _ w), at_most _ _ w, c.requires.0)

pub overflow_add-here-in-loop-left : goal.overflow_add-here-in-loop-left
overflow_add-here-in-loop-left c =
    let w = c.loop-left.invariant.0 in
    let g = c.next_part-p.ensures.goes in
    omega (arith, number-most _ _ w, heard-most _ _ w, g.few (at_most _ _ w), g.held, at_most _ _ w, c.requires.0)

pub loop-left-preserved : goal.loop-left-preserved
loop-left-preserved c =
    let w = c.loop-left.invariant in (
      follows_on _ _ w.0 c.next_part-p.ensures.next_part (not-false _ c.if-not-p.false),
      c.next_part-p.auto.out ∙ w.1,
      c.next_part-p.auto.cells ∙ w.2,
    )
