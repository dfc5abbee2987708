use Rattle.mending.proofs.Filling.{put-done}
use Rattle.mending.proofs.put_frames.Goals as goal

pub returns : goal.returns
returns c = put-done c.args.count c.args.octet c.requires (c.fill.ensures.after (λ y e. e))
