use native.Mathlib.Omega.{arith}
use mathlib.Core.Path.{sym}
use Rattle.store_greeting.proofs.Taking.{takes-wrong, taking-start, taking-few, taking-heard, taking-more, taking-on}
use Rattle.store_greeting.proofs.Taking.{taking-turn, taken-wrong, taken-all}
use Rattle.store_greeting.proofs.Bad.{bad-empty}
use Rattle.store_greeting.proofs.marks.take.Goals as goal

pub returns-then-octets-lt1 : goal.returns-then-octets-lt1
returns-then-octets-lt1 c =
    takes-wrong c.args.law c.args.octets.now _ _ (sym (bad-empty c.args.law c.args.octets.now (omega arith)))

pub loop-at-init : goal.loop-at-init
loop-at-init c = taking-start _ _ _

pub keep-requires : goal.keep-requires
keep-requires c =
    let t = c.loop-at.invariant in
    let few = taking-few _ _ t (omega arith) (omega arith) in
    let heard = taking-heard _ _ t (omega arith) in
    (omega (arith, few), omega arith, omega (arith, heard))

pub returns-in-Err : goal.returns-in-Err
returns-in-Err c =
    taken-wrong _ _ c.loop-at.invariant (omega arith) (omega arith) (omega arith) c.walk_on-walked.ensures c.in-Err.is _

pub overflow_add-samples : goal.overflow_add-samples
overflow_add-samples c =
    omega (arith, taking-heard _ _ c.loop-at.invariant (omega arith), taking-more _ _ c.loop-at.invariant c.walk_on-walked.ensures)

pub overflow_add-m : goal.overflow_add-m
overflow_add-m c = omega (
  arith,
  taking-few _ _ c.loop-at.invariant
      (omega arith) (omega arith),
)

pub loop-at-smaller : goal.loop-at-smaller
loop-at-smaller c =
    omega (arith, taking-on _ _ c.loop-at.invariant c.walk_on-walked.ensures c.in-Ok.is (omega arith))

pub loop-at-preserved : goal.loop-at-preserved
loop-at-preserved c =
    taking-turn _ _ c.loop-at.invariant (omega arith) c.walk_on-walked.ensures c.in-Ok.is c.keep.ensures
    c.keep.auto.marks

pub returns : goal.returns
returns c =
    taken-all _ _ c.loop-at.invariant (omega arith) (omega arith) (omega arith) (omega arith)
