-- Three fields, then the line's end.
use native.Mathlib.Omega.{arith}
use Rattle.text_lines.proofs.Putting.{puts_then}
use Rattle.text_lines.proofs.put_reading.Goals as goal

pub returns : goal.returns
returns c =
    let tool = c.put_field-t.ensures in
    let octets = c.put_field-o.ensures in
    let bits = c.put_field-end.ensures in
    let end = c.put_word.ensures in
    record { puts = puts_then tool.puts (puts_then octets.puts (puts_then bits.puts end)); most = omega arith }
