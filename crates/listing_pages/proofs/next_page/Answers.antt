-- Each turn lists one step more (Turns); the measure is how far it is to the end.
use native.Mathlib.Omega.{arith}
use native.Mathlib.Nat.{le_of_lt}
use Rattle.listing_pages.proofs.Turns.{turn-then}
use Rattle.listing_pages.proofs.next_page.Goals as goal

pub returns-in_default-clause-lists : goal.returns-in_default-clause-lists
returns-in_default-clause-lists c = (turn-then c.loop-next.invariant.0 c.step-page.ensures.lists c.step-page.ensures.less).0

pub returns-then-out-page-lt320-clause-lists : goal.returns-then-out-page-lt320-clause-lists
returns-then-out-page-lt320-clause-lists c = (turn-then c.loop-next.invariant.0 c.step-page.ensures.lists c.step-page.ensures.less).0

pub loop-next-preserved : goal.loop-next-preserved
loop-next-preserved c =
    let t = turn-then c.loop-next.invariant.0 (rw c.in-Some.is at c.step-page.ensures.lists) (rw c.in-Some.is at c.step-page.ensures.less) in (
      record {
        lists = t.0;
        room = omega (arith, t.0.size, t.0.puts.size);
        nearer = le_of_lt t.1;
      },
      c.step-page.ensures.size,
    )
