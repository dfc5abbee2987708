-- Three fields, then the second half of the line.
use native.Mathlib.Omega.{arith}
use Rattle.text_lines.proofs.Putting.{puts_then}
use Rattle.rules.specs.Listing.{frame_line}
use Rattle.text_lines.proofs.frame_line.Goals as goal

pub returns : goal.returns
unfolding frame_line
returns c =
    let frame = c.put_field-f.ensures in
    let place = c.put_field-p.ensures in
    let samples = c.put_field-s.ensures in
    let reading = c.put_reading.ensures in
    record { puts = puts_then frame.puts (puts_then place.puts (puts_then samples.puts reading.puts)); most = omega arith }
