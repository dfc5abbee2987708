use native.Mathlib.Omega.{arith}
use mathlib.Core.Path.{sym}
use lib.Seq.{length-take-le}
use Rattle.tool_playback.proofs.playing.use_part.Goals as goal

pub slice_bounds-use_sound-end : goal.slice_bounds-use_sound-end
slice_bounds-use_sound-end c = sym (length-take-le _ _ c.requires.1)

pub use_sound-requires : goal.use_sound-requires
use_sound-requires c =
    omega (arith, length-take-le c.args.p.samples c.args.page.now c.requires.1, c.requires.1, c.requires.2)

pub returns : goal.returns
returns c =
    rw (length-take-le c.args.p.samples c.args.page.now c.requires.1) at c.use_sound.ensures
