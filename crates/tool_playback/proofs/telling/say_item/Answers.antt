use Rattle.tool_playback.proofs.Running.{item-lost}
use Rattle.tool_playback.proofs.telling.say_item.Goals as goal

pub overflow_sub-n : goal.overflow_sub-n
overflow_sub-n c = (item-lost _ _ c.requires.1 c.if-p-ne0.true).0

pub say_loss-requires : goal.say_loss-requires
say_loss-requires c =
    let p = c.requires in ((item-lost _ _ p.1 c.if-p-ne0.true).1, p.2, p.3)
