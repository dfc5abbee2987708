-- How it stopped, the bit, then the line's end.
use native.Mathlib.Omega.{arith}
use Rattle.text_lines.proofs.Putting.{puts_then}
use Rattle.rules.specs.Listing.{stop_line}
use Rattle.text_lines.proofs.stop_line.Goals as goal

pub returns : goal.returns
unfolding stop_line
returns c =
    let stop = c.put_stop-t.ensures in
    let bit = c.put_field-end.ensures in
    let end = c.put_word.ensures in
    record { puts = puts_then stop.puts (puts_then bit.puts end); most = omega arith }
