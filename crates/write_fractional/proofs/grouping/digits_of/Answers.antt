-- The digits laid one by one.
use Rattle.std.proofs.Common.{List, ℕ, set, ap, ◌∙◌, arith}
use Rattle.rules.proofs.Lent.{mapped-turn}
use Rattle.write_fractional.proofs.grouping.digits_of.Invariants.{digit}
use Rattle.write_fractional.proofs.grouping.digits_of.Goals as goal

pub loop-i-preserved : goal.loop-i-preserved
loop-i-preserved c =
    let a = c.args in
    let l = c.loop-i in
    let f = digit a.mask a.row.low a.row.below in
    ap (λ (d : List ℕ). set d l.i c.digit_of.result) l.invariant
    ∙ mapped-turn f a.frame.now a.digits.now l.i 0 c.digit_of.result c.loop-i-test.true (omega arith) c.digit_of.ensures
