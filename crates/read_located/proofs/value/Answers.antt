-- The method, and its flags (Methods).
use native.Mathlib.Omega.{arith}
use Rattle.read_bits.proofs.Told.{told, refused, handed_on}
use Rattle.read_runs.proofs.Answer.{marks-refused}
use Rattle.read_located.specs.Valued.{flags_of}
use Rattle.read_located.proofs.Methods.{method-read}
use Rattle.read_located.proofs.value.Goals as goal

pub by_method-requires : goal.by_method-requires
by_method-requires c = let m = told c.number.ensures c.in_ok-m.was in omega arith

pub returns-in_err-m : goal.returns-in_err-m
unfolding flags_of
returns-in_err-m c =
    rw (handed_on c.from_residual.result c.from_residual.ensures.1) (marks-refused (omega arith) (rw (refused c.number.ensures c.in_err-m.was)))

pub returns : goal.returns
returns c =
    let m = told c.number.ensures c.in_ok-m.was in
    method-read _ _ _ _ m.says c.by_method.ensures (omega arith)
