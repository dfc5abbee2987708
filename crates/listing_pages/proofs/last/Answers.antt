-- The stop line, then the line of samples.
use native.Mathlib.Omega.{arith}
use mathlib.Core.Path.{refl}
use Rattle.text_lines.proofs.Putting.{puts_then}
use Rattle.listing_pages.proofs.last.Goals as goal

pub returns : goal.returns
returns c =
    let stop = c.stop_line-stop.ensures in
    let samples = c.samples_line.ensures in
    record { puts = puts_then stop.puts samples.puts; ended = refl; most = omega arith }
