-- Each turn reads one place (Listing); the measure is the places left.
use mathlib.Core.Path.{sym, ◌∙◌}
use native.Mathlib.Omega.{arith}
use Rattle.read_bits.proofs.Told.{told, refused, handed_on}
use Rattle.read_runs.proofs.Marking.{marks-filled}
use Rattle.read_located.proofs.Listing.{listing_none, listing-refused, listing-falls, listing-below, listing-turn}
use Rattle.read_located.proofs.Listing.{listing-all}
use Rattle.read_located.proofs.places.Goals as goal

pub loop-read-init : goal.loop-read-init
loop-read-init c = listing_none _ _ _ _ _ c.fill.ensures (omega arith) (omega arith)

pub returns-in_err-p : goal.returns-in_err-p
returns-in_err-p c =
    rw (handed_on c.from_residual.result c.from_residual.ensures.1, ← c.width_of-width.ensures.0)
    (marks-filled (listing-refused c.loop-read.invariant (omega arith) (refused c.number.ensures c.in_err-p.was))
    c.fill.ensures)

pub returns-then-not-rises : goal.returns-then-not-rises
returns-then-not-rises c =
    let p = told c.number.ensures c.in_ok-p.was in
    let falls = sym c.rises.ensures ∙ c.if-not-rises.true in
    rw (← c.width_of-width.ensures.0)
    (marks-filled (listing-falls c.loop-read.invariant (omega arith) p.says falls) c.fill.ensures)

pub bounds-cells-p : goal.bounds-cells-p
bounds-cells-p c =
    let b = listing-below c.loop-read.invariant (sym c.rises.ensures ∙ c.if-not-rises.false) in
    omega (arith, b.0, b.1)

pub overflow_add-least : goal.overflow_add-least
overflow_add-least c =
    let b = listing-below c.loop-read.invariant (sym c.rises.ensures ∙ c.if-not-rises.false) in
    omega (arith, b.0, b.1)

pub loop-read-preserved : goal.loop-read-preserved
loop-read-preserved c =
    let p = told c.number.ensures c.in_ok-p.was in
    listing-turn c.loop-read.invariant (omega arith) p.says
    (sym c.rises.ensures ∙ c.if-not-rises.false) p.next (omega arith)

pub returns : goal.returns
returns c =
    rw (← c.width_of-width.ensures.0)
    (marks-filled (listing-all c.loop-read.invariant (omega arith) (omega arith)) c.fill.ensures)
