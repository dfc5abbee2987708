use mathlib.Core.Path.{sym, ap}
use native.Mathlib.Omega.{arith}
use lib.Bits.{xor_lt}
use Rattle.rules.specs.Samples.{sample_of}
use Rattle.law.proofs.Turned.{Below, below, Above, above}
use Rattle.law.proofs.sample_of.Goals as goal

under : (c : goal.Then-v-lt0) → Below c.args.v
under c = below c.args.v c.ranges.v c.if-v-lt0.true

over : (c : goal.Else-v-lt0) → Above c.args.v
over c = above c.args.v c.ranges.v c.if-v-lt0.false

pub overflow_sub-result : goal.overflow_sub-result
overflow_sub-result c = rw (under c).turned (record { sfits = (under c).small })

pub overflow_cast-result : goal.overflow_cast-result
overflow_cast-result c = rw (under c).bits (tt, record { fits = omega (arith, (under c).small) })

pub returns-then-v-lt0 : goal.returns-then-v-lt0
unfolding sample_of
returns-then-v-lt0 c = rw (under c).bits (sym (ap (sample_of c.args.mask) (under c).is))

pub overflow_add-result : goal.overflow_add-result
overflow_add-result c =
    rw (over c).bits (record { fits = omega (arith, xor_lt 7 (over c).y c.args.mask (over c).small c.requires) })

pub returns-else-v-lt0 : goal.returns-else-v-lt0
unfolding sample_of
returns-else-v-lt0 c = rw (over c).bits (sym (ap (sample_of c.args.mask) (over c).is))
