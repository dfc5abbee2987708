use Prim.Native.Nat.{ℕ, ◌≤◌}
use mathlib.Core.Path.{ap}
use mathlib.Core.Bool.{Bool, cond}
use mathlib.Core.List.{List}
use native.Mathlib.Omega.{arith}
use borrow.Author.Tests.{eq-eqb, ne_eqb}
use Rattle.rules.specs.Bits.{bits_of}
use Rattle.rules.specs.Reading.{Reader}
use Rattle.rules.specs.Located.{located}
use Rattle.rules.specs.Fractional.{fractional}
use Rattle.read_bodies.proofs.Poured.{fills-as}
use Rattle.reader.proofs.Decided.{length-range}
use Rattle.rules.proofs.Tests.{forties}
use Rattle.reader.proofs.few_values.Goals.{Start}
use Rattle.reader.proofs.few_values.Goals as goal

module _ (c : Start) where
  ranged : (1 ≤ c.args.h.len) × (c.args.h.len ≤ 320)
  ranged = length-range c.args.h.len c.requires.0.len

  -- by the test of the tool
  abbrev either : Bool → Reader (List ℕ)
  either b = cond b (fractional c.args.mask c.args.h.mark c.args.h.len) (located c.args.mask c.args.h.len)

pub body-requires : goal.body-requires
body-requires c = (
  omega (arith, c.requires.0.at),
  (ranged (goal.at.body-requires c).Start).1,
  forties c.args.h.len c.requires.0.len,
  c.requires.0.mark,
  c.requires.1,
  c.requires.3,
)

pub returns-then-h-eq11 : goal.returns-then-h-eq11
returns-then-h-eq11 c =
    fills-as {other = fractional c.args.mask c.args.h.mark c.args.h.len (bits_of c.args.octets.now) c.args.h.at}
    c.body.ensures (ap (λ (b : Bool). either (goal.at.returns-then-h-eq11 c).Start b (bits_of c.args.octets.now) c.args.h.at)
    (eq-eqb c.args.h.tool 11 c.if-h-eq11.true)) (omega (arith, c.requires.0.at))

pub located-requires : goal.located-requires
located-requires c = (omega (arith, c.requires.0.at), (ranged (goal.at.located-requires c).Start).1, c.requires.1, c.requires.2, c.requires.3)

pub returns-else-h-eq11 : goal.returns-else-h-eq11
returns-else-h-eq11 c =
    fills-as c.located.ensures (ap (λ (b : Bool). either (goal.at.returns-else-h-eq11 c).Start b (bits_of c.args.octets.now) c.args.h.at)
    (ne_eqb c.args.h.tool 11 c.if-h-eq11.false)) (omega (arith, c.requires.0.at))
