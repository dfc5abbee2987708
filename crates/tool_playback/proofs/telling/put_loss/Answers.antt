-- Four fields, and the end of the line.
use native.Mathlib.Omega.{arith}
use Rattle.text_lines.proofs.Putting.{puts_then}
use Rattle.tool_playback.specs.Lines.{loss_line}
use Rattle.tool_playback.proofs.telling.put_loss.Goals as goal

pub returns : goal.returns
unfolding loss_line
returns c =
    let loss = c.put_field-l.ensures in
    let place = c.put_field-p.ensures in
    let samples = c.put_field-s.ensures in
    let heard = c.put_field-end.ensures in
    let end = c.put_word.ensures in
    record {
      puts = puts_then loss.puts (puts_then place.puts (puts_then samples.puts (puts_then heard.puts end)));
      most = omega
          (arith, loss.most, place.most, samples.most, heard.most, end.place);
    }
