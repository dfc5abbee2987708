use Rattle.reasons.proofs.Lines.{winner-put}
use native.Mathlib.Omega.{arith}
use Rattle.reasons.proofs.put_winner.Goals as goal

pub returns : goal.returns
returns c =
    record {
      puts = winner-put _ _ c.put_short-a.ensures.puts c.put_word-b.ensures c.put_by-c.ensures.puts c.put_word.ensures;
      most = omega (arith, c.put_word.ensures.place);
    }
