use mathlib.Core.Path.{◌≡◌}
use lib.ListN.{length}
use Rattle.std.proofs.Common.{Some}
use Rattle.listing_pages.specs.Pages.{steps_left}
use Rattle.listing_pages.proofs.Turns.{Turn}
use Rattle.listing_pages.proofs.next_page.Given as goal

-- Each turn lists one step more (Turns); the measure is how far it is to the end.
abbrev pub invariant-loop-next : goal.invariant-loop-next
invariant-loop-next l = Turn l.stream l.initial.s l.initial.out l.s l.out l.to × (length l.room ≡ 320)

abbrev pub decreases-loop-next : goal.decreases-loop-next
decreases-loop-next l = steps_left l.stream (Some l.s)
