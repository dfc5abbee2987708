use native.Mathlib.Omega.{arith}
use mathlib.Core.Path.{◌≡◌, ◌∙◌}
use Rattle.linear.specs.Constants.{level_of}
use Prim.Native.Nat.{ℕ, ◌+◌, ◌-◌, ◌%◌}
use lib.Bits.{bit_xor}
use mir.Syntax.{w16}
use mir.Facts.{to_z_pos}
use Rattle.linear.proofs.Signs.{minus}
use Rattle.linear.proofs.Sound.{Sound, sound-as}
use Rattle.linear.proofs.One.{Level, level-range, linear-above, linear-below}
use Rattle.linear.proofs.linear_of.Goals.{After-struct_known-2-1, After-struct_known-3-1}
use Rattle.linear.proofs.linear_of.Goals as goal

small : (c : After-struct_known-2-1) → Sound c.constants_of-l.result
small c = sound-as c.args.law c.constants_of-l.ensures

-- the level of the octet's code
abbrev code : (c : After-struct_known-3-1) → ℕ
code c = bit_xor c.args.octet
    c.constants_of-l.result.mask % 128
    + c.constants_of-l.result.step

levelled : (c : After-struct_known-3-1) → c.level.result ≡ level_of (code c)
levelled c = rw c.from-y.ensures at c.level.ensures

range : (c : After-struct_known-3-1) → Level (code c) c.level.result
range c = rw (levelled c) (level-range _ (omega (arith, sound-as c.args.law c.constants_of-l.ensures)))

pub overflow_cast-c : goal.overflow_cast-c
overflow_cast-c c = record { fits = omega (arith, small c) }

pub overflow_add-c : goal.overflow_add-c
overflow_add-c c = record { fits = omega (arith, small c) }

pub level-requires : goal.level-requires
level-requires c = omega (arith, small c)

pub overflow_cast-v : goal.overflow_cast-v
overflow_cast-v c = record { fits = omega (arith, small (goal.at.overflow_cast-v c).After-struct_known-2-1) }

pub overflow_sub-v : goal.overflow_sub-v
overflow_sub-v c = omega (arith, small (goal.at.overflow_sub-v c).After-struct_known-2-1, range c)

pub overflow_cast-v-2 : goal.overflow_cast-v-2
overflow_cast-v-2 c = record { sfits = omega (arith, range c) }

pub returns-then-octet-ge128 : goal.returns-then-octet-ge128
returns-then-octet-ge128 c =
    to_z_pos w16 (omega (arith, range (goal.at.returns-then-octet-ge128 c).After-struct_known-3-1))
    ∙ linear-above c.args.law c.constants_of-l.ensures (omega arith) (omega arith)
    (levelled (goal.at.returns-then-octet-ge128 c).After-struct_known-3-1)

pub overflow_sub-result : goal.overflow_sub-result
overflow_sub-result c =
    (minus w16 (c.level.result - c.constants_of-l.result.bias) (omega (arith, range (goal.at.overflow_sub-result c).After-struct_known-3-1))).fits

pub returns-else-octet-ge128 : goal.returns-else-octet-ge128
returns-else-octet-ge128 c =
    (minus w16 (c.level.result - c.constants_of-l.result.bias) (omega (arith, range (goal.at.returns-else-octet-ge128 c).After-struct_known-3-1))).is
    ∙ linear-below c.args.law c.constants_of-l.ensures (omega arith) (omega arith)
    (levelled (goal.at.returns-else-octet-ge128 c).After-struct_known-3-1)
