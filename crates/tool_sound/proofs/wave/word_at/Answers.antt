use Rattle.std.proofs.Common.{arith}
use Rattle.tool_sound.specs.Headings.{word_at, half_at}
use Rattle.tool_sound.proofs.wave.word_at.Goals as goal

pub returns : goal.returns
unfolding word_at half_at
returns c = rw c.from_le_bytes.ensures (grind arith)
