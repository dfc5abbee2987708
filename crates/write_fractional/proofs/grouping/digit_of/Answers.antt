use Rattle.write_fractional.proofs.Digits.{digit-up, digit-down}
use Rattle.write_fractional.proofs.grouping.digit_of.Goals as goal

pub returns-then-x-ge128 : goal.returns-then-x-ge128
returns-then-x-ge128 c = let a = c.args in digit-up a.mask a.x a.low a.below c.if-x-ge128.true

pub returns-else-x-ge128 : goal.returns-else-x-ge128
returns-else-x-ge128 c =
    let a = c.args in digit-down a.mask a.x a.low a.below c.if-x-ge128.false c.saturating_sub-down.ensures
