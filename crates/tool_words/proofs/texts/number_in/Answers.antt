use Rattle.std.proofs.Common.{arith, sym, ◌∙◌}
use Rattle.std.proofs.lemmas.Bool.Decides.{nat_tests}
use Rattle.tool_words.proofs.Digits.{number_step, number-low, number-high, number-end, digits-few, digits_more}
use Rattle.tool_words.specs.Numbers.{number_in}
use Rattle.tool_words.proofs.texts.number_in.Goals as goal
use Rattle.tool_words.proofs.texts.number_in.Goals.{then-is_empty-via-then-is_empty, then-is_empty-via-else-is_empty+then-text-gt9}

pub returns-then-is_empty : goal.returns-then-is_empty
unfolding number_in
returns-then-is_empty c =
    elim c.then-is_empty.branch [
      | then-is_empty-via-then-is_empty w ↦ grind (arith, nat_tests)
      | then-is_empty-via-else-is_empty+then-text-gt9 w ↦ grind (arith, nat_tests)
    ]

pub loop-x-init : goal.loop-x-init
unfolding number_in
loop-x-init c = (c.if-text-gt9.false, omega arith, grind (arith, nat_tests))

pub overflow_mul-v : goal.overflow_mul-v
overflow_mul-v c = omega (arith, digits-few _ _ c.loop-x.invariant.1 (omega arith))

pub overflow_add-v : goal.overflow_add-v
overflow_add-v c = omega (arith, digits-few _ _ c.loop-x.invariant.1 (omega arith))

pub loop-x-preserved : goal.loop-x-preserved
loop-x-preserved c =
    let l = c.loop-x in
    rw c.from.ensures (
      l.invariant.0,
      digits_more _ _ _ l.invariant.1 (omega arith),
      l.invariant.2 ∙ number_step c.args.text.now l.v l.x-index (omega arith) (omega arith) (omega arith),
    )

pub returns-in_default : goal.returns-in_default
returns-in_default c =
    let l = c.loop-x in
    sym (l.invariant.2 ∙ number-low c.args.text.now l.v l.x-index (omega arith) (omega arith))

pub returns-in_default-2 : goal.returns-in_default-2
returns-in_default-2 c =
    let l = c.loop-x in
    sym (l.invariant.2 ∙ number-high c.args.text.now l.v l.x-index (omega arith) (omega arith))

pub returns : goal.returns
returns c = sym (c.loop-x.invariant.2 ∙ number-end c.args.text.now c.loop-x.v c.loop-x.x-index (omega arith))
