use Rattle.reasons.proofs.Lines.{fields-put}
use Rattle.reasons.proofs.put_fields.Goals as goal

pub returns : goal.returns
returns c =
    let p = c.put_short-a.ensures in
    let s = c.put_short-d.ensures in
    let t = c.put_short-e.ensures in
    let r = fields-put _ _ _ _ p.puts c.put_word-b.ensures c.put_word-c.ensures s.puts t.puts c.put_word.ensures
    c.requires.0 p.most s.most t.most in record { puts = r.0; most = r.1 }
