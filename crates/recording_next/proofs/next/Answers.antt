-- LAW, SET, LONG, SHORT, and then what stands at the place (Pieces).
use mathlib.Core.Path.{◌≡◌, sym, ◌∙◌}
use native.Mathlib.Omega.{arith}
use lib.ListN.{length}
use Rattle.rules.specs.Refusals.{Ending}
use Rattle.rules.specs.Refusals.{verdict}
use Rattle.rules.specs.Walk.{walk_asks}
use Rattle.recording_next.proofs.Pieces.{tells_as, next-refused, next-short, next_here}
use Rattle.recording_next.proofs.next.Goals.{After-guard_stream}
use Rattle.recording_next.proofs.next.Goals as goal

-- what the guard said, e
module _ (c : After-guard_stream) {e : Ending} (q : c.guard_stream.result ≡ e) where
  said : verdict (walk_asks c.args.law c.args.set (length c.args.octets.now)) ≡ e
  said = sym c.guard_stream.ensures ∙ q

pub returns-then-octets-place : goal.returns-then-octets-place
returns-then-octets-place c =
    tells_as (next-short _ _ _ _ _ (said (goal.at.returns-then-octets-place c).After-guard_stream c.in-Ok.is)
    c.if-octets-place.true) (c.unread-then-octets-place.ensures _)

pub item_at-requires : goal.item_at-requires
item_at-requires c =
    (said (goal.at.item_at-requires c).After-guard_stream c.in-Ok.is, omega arith)

pub returns-in-Err : goal.returns-in-Err
returns-in-Err c =
    tells_as (next-refused _ _ _ _ _ (said (goal.at.returns-in-Err c).After-guard_stream c.in-Err.is)) (c.unread.ensures _)

pub returns-else-octets-place : goal.returns-else-octets-place
returns-else-octets-place c =
    tells_as (next_here _ _ _ _ _ (said (goal.at.returns-else-octets-place c).After-guard_stream c.in-Ok.is) (omega arith)) c.item_at.ensures
