use Rattle.text_lines.proofs.Putting.{puts_then}
use native.Mathlib.Omega.{arith}
use Rattle.reasons.proofs.Lines.{lines-put}
use Rattle.reasons.proofs.put_reasons.Goals as goal

pub returns : goal.returns
returns c =
    let a = c.put_tool-a.ensures.puts in
    let b = c.put_tool-b.ensures.puts in
    let d = c.put_tool-d.ensures.puts in
    let e = c.put_tool-e.ensures.puts in
    let f = c.put_tool-f.ensures.puts in
    let g = c.put_tool-g.ensures.puts in
    let h = c.put_tool-h.ensures.puts in
    record {
      puts = lines-put c.args.r (puts_then a (puts_then b (puts_then c.put_tool-c.ensures.puts d)))
          (puts_then e (puts_then f (puts_then g h))) c.put_winner.ensures.puts;
      most = omega arith;
    }
