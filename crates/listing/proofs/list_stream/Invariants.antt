-- Page after page; the measure is how far it is to the end.
use Rattle.std.proofs.Common.{length, ◌≡◌}
use Rattle.listing_pages.specs.Pages.{GoesOn, steps_left}
use Rattle.listing.proofs.list_stream.Given as goal

abbrev pub invariant-loop-next : goal.invariant-loop-next
invariant-loop-next l = (GoesOn l.stream l.next) × (length l.text ≡ length l.initial.text)

abbrev pub decreases-loop-next : goal.decreases-loop-next
decreases-loop-next l = steps_left l.stream l.next
