use Rattle.std.proofs.Common.{ℕ, ◌≡◌, map}
use lib.Seq.{paste}
use Rattle.rules.specs.Samples.{signed}
use Rattle.rules.specs.Fractional.{digit_for}
use Rattle.write_fractional.proofs.grouping.digits_of.Given as goal

-- The digits laid one by one.
abbrev pub digit : ℕ → ℕ → ℕ → ℕ → ℕ
digit mask low below x = digit_for low below (signed mask x)

abbrev pub invariant-loop-i : goal.invariant-loop-i
invariant-loop-i l = l.digits ≡ paste l.initial.digits 0 (map (digit l.mask l.low l.below) l.frame) l.i
