use native.Mathlib.Omega.{arith}
use Rattle.store_greeting.proofs.Bad.{bad-empty, bad-law, bad-long, bad-walked}
use Rattle.store_greeting.proofs.greetings.is_bad.Goals.{then-len-lt1-via-then-len-lt1}
use Rattle.store_greeting.proofs.greetings.is_bad.Goals.{then-len-lt1-via-else-len-lt1+then-law-gt-MOST_LAW}
use Rattle.store_greeting.proofs.greetings.is_bad.Goals.{then-len-lt1-via-else-len-lt1+else-law-gt-MOST_LAW+then-len-gt-LONGEST}
use Rattle.store_greeting.proofs.greetings.is_bad.Goals as goal

pub returns-then-len-lt1 : goal.returns-then-len-lt1
returns-then-len-lt1 c =
    let law = c.args.law in
    let xs = c.args.octets.now in
    elim c.then-len-lt1.branch [
      | then-len-lt1-via-then-len-lt1 w ↦ bad-empty law xs (omega arith)
      | then-len-lt1-via-else-len-lt1+then-law-gt-MOST_LAW w ↦ bad-law law xs (omega arith) (omega arith)
      | then-len-lt1-via-else-len-lt1+else-law-gt-MOST_LAW+then-len-gt-LONGEST w ↦ bad-long law xs (omega arith) (omega arith) (omega arith)
    ]

pub returns : goal.returns
returns c =
    bad-walked c.args.law c.args.octets.now (omega arith) (omega arith) (omega arith) c.walk_on-walked.ensures.end
    c.is_err.ensures.value
