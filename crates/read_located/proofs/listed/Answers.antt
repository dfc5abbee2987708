-- The count, then its places.
use native.Mathlib.Omega.{arith}
use Rattle.rules.specs.Located.{listed}
use Rattle.read_bits.proofs.Told.{told, refused, handed_on}
use Rattle.read_runs.proofs.Answer.{marks-refused}
use Rattle.read_located.proofs.Methods.{list_read}
use Rattle.read_located.proofs.listed.Goals as goal

pub overflow_add-less : goal.overflow_add-less
overflow_add-less c = let l = told c.number.ensures c.in_ok-less.was in omega arith

pub places-requires : goal.places-requires
places-requires c =
    let l = told c.number.ensures c.in_ok-less.was in
    omega arith

pub returns-in_err-less : goal.returns-in_err-less
unfolding listed
returns-in_err-less c =
    rw (handed_on c.from_residual.result c.from_residual.ensures.1) (marks-refused (omega arith) (rw (refused c.number.ensures c.in_err-less.was)))

pub returns : goal.returns
returns c =
    let l = told c.number.ensures c.in_ok-less.was in
    list_read _ _ _ l.says c.places.ensures (omega arith)
