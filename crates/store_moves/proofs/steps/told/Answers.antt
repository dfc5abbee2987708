use native.Mathlib.Omega.{arith}
use Rattle.store_moves.proofs.Worded.{bad-page, bad-six, bad-seven, no-sense, told-moving, bad-state, bad-spare, told-lifted}
use Rattle.store_moves.proofs.Worded.{sensible-down}
use Rattle.store_moves.proofs.steps.told.Goals.{then-words-gt1-via-then-words-gt1, then-words-gt1-via-else-words-gt1+then-words-gt0}
use Rattle.store_moves.proofs.steps.told.Goals.{then-words-gt1-via-else-words-gt1+else-words-gt0+then-words-gt0-2}
use Rattle.store_moves.proofs.steps.told.Goals as goal

pub returns-then-words-gt1 : goal.returns-then-words-gt1
returns-then-words-gt1 c =
    let a = c.args in
    elim c.then-words-gt1.branch [
      | then-words-gt1-via-then-words-gt1 w ↦ bad-page a.size a.spare a.words.now (omega arith)
      | then-words-gt1-via-else-words-gt1+then-words-gt0 w ↦ bad-six a.size a.spare a.words.now (omega arith) (omega arith)
      | then-words-gt1-via-else-words-gt1+else-words-gt0+then-words-gt0-2 w ↦
          bad-seven a.size a.spare a.words.now (omega arith) (omega arith) (omega arith)
    ]

pub returns-then-not-makes_sense : goal.returns-then-not-makes_sense
returns-then-not-makes_sense c =
    let a = c.args in
    no-sense a.size a.spare a.words.now (omega arith) (omega arith) (omega arith) c.move_of-m.ensures
    c.makes_sense.ensures (c.if-not-makes_sense.true)

pub overflow_sub-m : goal.overflow_sub-m
overflow_sub-m c =
    let a = c.args in
    omega (arith, sensible-down a.size c.move_of-m.result c.makes_sense.ensures (c.if-not-makes_sense.false))

-- the move makes sense
pub returns-in-1 : goal.returns-in-1
returns-in-1 c =
    let a = c.args in
    told-moving a.size a.spare a.words.now (omega arith) (omega arith) (omega arith) c.move_of-m.ensures
    c.makes_sense.ensures (c.if-not-makes_sense.false) c.in-1.is

pub returns-in-2 : goal.returns-in-2
returns-in-2 c =
    let a = c.args in
    told-lifted a.size a.spare a.words.now (omega arith) (omega arith) (omega arith) c.move_of-m.ensures
    c.makes_sense.ensures (c.if-not-makes_sense.false) (λ e. omega (arith, e)) c.in-2.is (omega arith)

pub returns-in_default : goal.returns-in_default
returns-in_default c =
    let a = c.args in
    bad-spare a.size a.spare a.words.now (omega arith) (omega arith) (omega arith) c.move_of-m.ensures
    c.makes_sense.ensures (c.if-not-makes_sense.false) (λ e. omega (arith, e)) c.in-2.is (omega arith)

pub returns-in_default-2 : goal.returns-in_default-2
returns-in_default-2 c =
    let a = c.args in
    bad-state a.size a.spare a.words.now (omega arith) (omega arith) (omega arith) c.move_of-m.ensures
    c.makes_sense.ensures (c.if-not-makes_sense.false) (λ e. omega (arith, e)) (λ e. omega (arith, e))
