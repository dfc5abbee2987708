use lib.ListN.{length-append}
use Rattle.text_keyvalue.proofs.Decimals.{decimal-few}
use native.Mathlib.Omega.{arith}
use Rattle.reasons.proofs.put_short.Goals as goal

pub returns : goal.returns
returns c =
    let p = c.put_field.ensures.puts in let few = decimal-few 9 c.args.n (omega arith) in record { puts = p; most = rw (p.place, length-append) (omega arith) }
