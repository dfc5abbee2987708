-- Method by method (Methods).
use native.Mathlib.Omega.{arith}
use Rattle.read_runs.proofs.Answer.{marks-refused}
use Rattle.read_located.proofs.Methods.{marks-as, method-straight, method_runs, method-none, method-unknown, method-listed}
use Rattle.read_located.proofs.by_method.Goals as goal

pub returns-in-0 : goal.returns-in-0
returns-in-0 c = marks-as c.straight.ensures (method-straight _ _ _ _ _ _ (omega arith)) (omega arith)

pub returns-in-1-to-4 : goal.returns-in-1-to-4
returns-in-1-to-4 c = marks-as c.runs.ensures (method_runs _ _ _ _ _ _ (omega arith) (omega arith)) (omega arith)

pub returns-in-5 : goal.returns-in-5
returns-in-5 c = method-none _ _ _ _ _ _ (omega arith) (omega arith) _ (omega arith) c.fill.ensures

pub returns-in-6 : goal.returns-in-6
returns-in-6 c = marks-refused (omega arith) (method-unknown _ _ _ _ _ _ (omega arith))

pub returns-in_default : goal.returns-in_default
returns-in_default c = marks-as c.listed.ensures (method-listed _ _ _ _ _ _ (omega arith)) (omega arith)
