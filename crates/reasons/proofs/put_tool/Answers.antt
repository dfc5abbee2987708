use native.Mathlib.Omega.{arith}
use Rattle.reasons.proofs.put_tool.Goals as goal

pub returns-in-Out : goal.returns-in-Out
returns-in-Out c = record { puts = rw c.in-Out.is c.put_fields.ensures.puts; most = omega arith }

pub returns-in-No : goal.returns-in-No
returns-in-No c = record { puts = rw c.in-No.is c.put_fields-in-No.ensures.puts; most = omega arith }

pub returns-in-Fits : goal.returns-in-Fits
returns-in-Fits c = record { puts = rw c.in-Fits.is c.put_fields-in-Fits.ensures.puts; most = omega arith }
