-- The octets from the place on are handed over whole.
use Rattle.rules.proofs.Lent.{from_on}
use Rattle.recording_next.proofs.tool_at.Goals as goal

pub returns : goal.returns
returns c = rw from_on at c.head.ensures.tool
