-- The zeros, then the low bits; neither the shift nor the sum loses anything (Shift).
use native.Mathlib.Omega.{arith}
use mathlib.Core.Path.{sym}
use Rattle.rules.specs.Runs.{rice}
use Rattle.read_bits.proofs.Told.{told, refused, stopped, handed_on}
use Rattle.read_bits.proofs.Shift.{fits-rice}
use Rattle.read_bits.proofs.rice.Goals as goal

pub number-requires : goal.number-requires
number-requires c =
    let k = told c.zeros.ensures c.in_ok-k.was in
    omega arith

pub overflow_add-result : goal.overflow_add-result
overflow_add-result c =
    let k = told c.zeros.ensures c.in_ok-k.was in
    let low = told c.number.ensures c.in_ok-low.was in
    let s = c.args.s in
    let f = fits-rice s k.value low.value (omega arith) (omega arith) in
    rw f.whole (omega arith)

pub returns-in_err-k : goal.returns-in_err-k
unfolding rice
returns-in_err-k c =
    rw (handed_on c.from_residual.result c.from_residual.ensures.1) (stopped (rw (refused c.zeros.ensures c.in_err-k.was)))

pub returns-in_err-low : goal.returns-in_err-low
unfolding rice
returns-in_err-low c =
    let k = told c.zeros.ensures c.in_ok-k.was in
    rw (handed_on c.from_residual-in_err-low.result c.from_residual-in_err-low.ensures.1) (stopped (rw (k.says, refused c.number.ensures c.in_err-low.was)))

pub returns : goal.returns
unfolding rice
returns c =
    let s = c.args.s in
    let k = told c.zeros.ensures c.in_ok-k.was in
    let low = told c.number.ensures c.in_ok-low.was in
    let f = fits-rice s k.value low.value (omega arith) (omega arith) in
    record {
      says = sym (rw (k.says, low.says, f.whole));
      value = rw f.whole f.small;
      next = omega arith;
    }
