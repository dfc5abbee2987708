use Rattle.text_lines.proofs.Putting.{puts_then}
use native.Mathlib.Omega.{arith}
use Rattle.why.proofs.put_frame.Goals as goal

pub returns : goal.returns
returns c = record { puts = puts_then c.put_head-a.ensures.puts c.put_reasons.ensures.puts; most = omega arith }
