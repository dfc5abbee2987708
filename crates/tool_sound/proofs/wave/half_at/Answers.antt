use Rattle.std.proofs.Common.{arith}
use Rattle.tool_sound.specs.Headings.{half_at}
use Rattle.tool_sound.proofs.wave.half_at.Goals as goal

pub returns-clause-value : goal.returns-clause-value
unfolding half_at
returns-clause-value c = rw (c.from.ensures, c.from_le_bytes.ensures) (omega arith)
