-- The octets after the heading are handed over whole (Whole).
use Rattle.recording_read.proofs.Whole.{items-read}
use Rattle.recording_read.proofs.read_items.Goals as goal

pub returns : goal.returns
returns c =
    items-read c.args.octets.now c.args.law c.args.set c.play_on-r.ensures
