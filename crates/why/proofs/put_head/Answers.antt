use Rattle.why.proofs.Showing.{head-put}
use Rattle.why.proofs.put_head.Goals as goal

pub returns : goal.returns
returns c =
    let second = c.put_field-b in
    let first = c.put_field-a in
    let r = head-put _ _ first.ensures.puts second.ensures.puts c.put_word.ensures first.ensures.most second.ensures.most in
    record { puts = r.0; most = r.1 }
