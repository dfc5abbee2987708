use native.Mathlib.Omega.{arith}
use mathlib.Core.Path.{◌≡◌, ap, ◌∙◌}
use lib.Bits.{xor_lt}
use mir.Facts.{to_z-of_z}
use lib.Signed.{mag}
use mir.Syntax.{w16}
use Prim.Native.Nat.{◌-◌}
use Rattle.linear.specs.Constants.{m_of}
use Rattle.linear.proofs.Signs.{Below, below, Above, above}
use Rattle.linear.proofs.Sound.{Code, sound-as, m-top}
use Rattle.linear.proofs.One.{code_fits, octet-below, octet-above}
use Rattle.linear.proofs.octet_of.Goals.{After-m_of-m, After-struct_known-1, Then-x-lt0, Else-x-lt0}
use Rattle.linear.proofs.octet_of.Goals as goal

-- m is that of the given number
sized : (c : After-m_of-m) → c.m_of-m.result ≡ m_of c.constants_of-l.result (mag c.args.x)
sized c = c.m_of-m.ensures ∙ ap (λ x. m_of c.constants_of-l.result (mag x)) (to_z-of_z c.ranges.x)

ready : (c : After-struct_known-1) → Code c.constants_of-l.result c.code_of.result
ready c =
    code_fits c.args.law _ c.constants_of-l.ensures c.m_of-m.ensures c.code_of.ensures

under : (c : Then-x-lt0) → Below w16 c.args.x
under c = below c.ranges.x c.if-x-lt0.true

over : (c : Else-x-lt0) → Above w16 c.args.x
over c = above c.ranges.x c.if-x-lt0.false

pub m_of-m-requires : goal.m_of-m-requires
m_of-m-requires c = omega (arith, sound-as c.args.law c.constants_of-l.ensures)

pub code_of-requires : goal.code_of-requires
code_of-requires c =
    let s = (sound-as c.args.law c.constants_of-l.ensures).top in
    omega (arith, sized c, m-top c.constants_of-l.result (mag c.args.x), s)

pub overflow_sub-y : goal.overflow_sub-y
overflow_sub-y c = (ready c).from

pub overflow_cast-y : goal.overflow_cast-y
overflow_cast-y c = record { fits = omega (arith, ready c) }

pub returns-then-x-lt0 : goal.returns-then-x-lt0
returns-then-x-lt0 c =
    octet-below c.args.law c.constants_of-l.ensures (under c).is (sized (goal.at.returns-then-x-lt0 c).After-m_of-m)
    c.code_of.ensures

pub overflow_add-result : goal.overflow_add-result
overflow_add-result c =
    let l = c.constants_of-l in
    let k = c.code_of.result in
    let s = sound-as c.args.law l.ensures in
    record {
      fits = omega (
        arith,
        xor_lt 7 (k - l.result.step) l.result.mask
            (omega (arith, ready (goal.at.overflow_add-result c).After-struct_known-1)) s.mask,
      );
    }

pub returns-else-x-lt0 : goal.returns-else-x-lt0
returns-else-x-lt0 c =
    octet-above c.args.law c.constants_of-l.ensures (over c).is (sized (goal.at.returns-else-x-lt0 c).After-m_of-m)
    c.code_of.ensures
