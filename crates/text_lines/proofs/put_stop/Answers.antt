-- Three fields.
use native.Mathlib.Omega.{arith}
use Rattle.text_lines.proofs.Putting.{puts_then}
use Rattle.text_lines.proofs.put_stop.Goals as goal

pub returns : goal.returns
returns c =
    let number = c.put_field-n.ensures in
    let place = c.put_field-p.ensures in
    let tool = c.put_field.ensures in
    record { puts = puts_then number.puts (puts_then place.puts tool.puts); most = omega arith }
