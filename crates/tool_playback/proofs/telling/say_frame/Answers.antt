use native.Mathlib.Omega.{arith}
use mathlib.Core.Path.{sym}
use lib.Seq.{length-take-le}
use Rattle.tool_playback.proofs.telling.say_frame.Goals as goal

pub slice_bounds-say-end : goal.slice_bounds-say-end
slice_bounds-say-end c =
    let t = c.frame_line-to.ensures in
    sym (length-take-le _ _ (omega (arith, t.most, t.puts.size)))
