use Rattle.tool_playback.proofs.Heard.{frames-heard}
use Rattle.tool_playback.proofs.parts.next_frames.Goals as goal

pub returns : goal.returns
returns c = frames-heard c.keep_on-w.ensures c.end_of.ensures
