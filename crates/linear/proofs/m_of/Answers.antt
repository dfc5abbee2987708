use native.Mathlib.Omega.{arith}
use mathlib.Core.Path.{ap, ◌∙◌}
use mir.Syntax.{w16}
use Prim.Native.Nat.{◌+◌, min}
use Rattle.linear.specs.Constants.{m_of}
use Rattle.linear.proofs.Signs.{Below, below, size_below, Above, above, size_above}
use Rattle.linear.proofs.m_of.Goals.{Then-v-lt0, Else-v-lt0}
use Rattle.linear.proofs.m_of.Goals as goal

under : (c : Then-v-lt0) → Below w16 c.args.v
under c = below c.ranges.v c.if-v-lt0.true

over : (c : Else-v-lt0) → Above w16 c.args.v
over c = above c.ranges.v c.if-v-lt0.false

pub overflow_sub-v : goal.overflow_sub-v
overflow_sub-v c = rw (under c).turned (record { sfits = (under c).small })

pub overflow_cast-v : goal.overflow_cast-v
overflow_cast-v c = rw (under c).bits (tt, record { fits = omega (arith, (under c).small) })

pub overflow_add-v : goal.overflow_add-v
overflow_add-v c = rw (under (goal.at.overflow_add-v c).Then-v-lt0).bits (record { fits = omega (arith, (under (goal.at.overflow_add-v c).Then-v-lt0).small) })

pub returns-then-v-lt0 : goal.returns-then-v-lt0
unfolding m_of
returns-then-v-lt0 c =
    let l = c.args.l in
    c.min.ensures ∙ ap (λ n. min (n + l.bias) l.top) (size_below (under (goal.at.returns-then-v-lt0 c).Then-v-lt0))

pub overflow_cast-v-else-v-lt0 : goal.overflow_cast-v-else-v-lt0
overflow_cast-v-else-v-lt0 c = rw (over c).bits (tt, record { fits = omega (arith, (over c).small) })

pub overflow_add-v-else-v-lt0 : goal.overflow_add-v-else-v-lt0
overflow_add-v-else-v-lt0 c =
    rw (over (goal.at.overflow_add-v-else-v-lt0 c).Else-v-lt0).bits (record
    { fits = omega (arith, (over (goal.at.overflow_add-v-else-v-lt0 c).Else-v-lt0).small) })

pub returns-else-v-lt0 : goal.returns-else-v-lt0
unfolding m_of
returns-else-v-lt0 c =
    let l = c.args.l in
    c.min-else-v-lt0.ensures ∙ ap (λ n. min (n + l.bias) l.top) (size_above (over (goal.at.returns-else-v-lt0 c).Else-v-lt0))
