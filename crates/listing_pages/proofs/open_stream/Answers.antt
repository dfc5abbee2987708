-- Too long a stream is refused; else the law's line (Openings).
use native.Mathlib.Omega.{arith}
use mathlib.Core.Path.{refl}
use Rattle.listing_pages.proofs.Openings.{opens_stopped, too_long, opens-stream}
use Rattle.listing_pages.proofs.open_stream.Goals as goal

pub returns-then-stream-gt-MOST_LISTED : goal.returns-then-stream-gt-MOST_LISTED
returns-then-stream-gt-MOST_LISTED c = opens_stopped _ c.refused.ensures (too_long _ _ (omega arith))

pub returns : goal.returns
returns c =
    let line = c.law_line-to.ensures in
    opens-stream _ _ refl (omega arith) (omega arith) line.puts (omega arith)
