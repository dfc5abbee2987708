-- Each tool's own body, as the definition's case of it.
use Prim.Native.Nat.{ℕ, ◌≤◌}
use mathlib.Core.Path.{◌≡◌, ap}
use native.Mathlib.Omega.{arith}
use mathlib.Core.List.{List}
use mathlib.Core.Bool.{cond}
use lib.Dec.{eqb}
use lib.ListN.{length}
use Rattle.rules.specs.Bits.{bits_of}
use Rattle.rules.specs.Reading.{Reader}
use Rattle.rules.specs.Zeros.{binary, plus_minus}
use Rattle.rules.specs.Located.{located}
use Rattle.rules.specs.Fractional.{fractional}
use Rattle.rules.specs.Frame.{body}
use Rattle.read_opening.specs.Opening.{body_by}
use Rattle.read_bodies.proofs.Poured.{fills-as}
use Rattle.reader.proofs.Decided.{length-range, last-body}
use Rattle.reader.proofs.body_of.Goals.{Start}
use Rattle.reader.proofs.body_of.Goals as goal

module _ (c : Start) where
  ranged : (1 ≤ c.args.h.len) × (c.args.h.len ≤ 320)
  ranged = length-range c.args.h.len c.requires.0.len

  -- the tool is k
  of-tool : (k : ℕ) → c.args.h.tool ≡ k
      → body_by c.args.mask c.args.h.tool c.args.h.len c.args.h.mark (bits_of c.args.octets.now) c.args.h.at
      ≡ body_by c.args.mask k c.args.h.len c.args.h.mark (bits_of c.args.octets.now) c.args.h.at
  of-tool k e =
      ap (λ (t : ℕ). body_by c.args.mask t c.args.h.len c.args.h.mark (bits_of c.args.octets.now) c.args.h.at) e

  lent : length c.args.samples.now ≡ 320
  lent = c.requires.4

pub binary-requires : goal.binary-requires
binary-requires c = (omega (arith, c.requires.0.at), (ranged (goal.at.binary-requires c).Start).1, c.requires.2, lent (goal.at.binary-requires c).Start)

pub plus_minus-requires : goal.plus_minus-requires
plus_minus-requires c = (
  omega (arith, c.requires.0.at),
  (ranged (goal.at.plus_minus-requires c).Start).1,
  c.requires.2,
  lent
      (goal.at.plus_minus-requires c).Start,
)

pub few_values-requires : goal.few_values-requires
few_values-requires c = let p = c.requires in (p.0, p.2, p.3, p.4)

pub returns-in-5 : goal.returns-in-5
unfolding body_by body
returns-in-5 c =
    fills-as {other = binary c.args.mask c.args.h.len (bits_of c.args.octets.now) c.args.h.at}
    c.binary.ensures (of-tool (goal.at.returns-in-5 c).Start 5 c.in-5.is) (omega (arith, c.requires.0.at, ranged (goal.at.returns-in-5 c).Start))

pub returns-in-6 : goal.returns-in-6
unfolding body_by body
returns-in-6 c =
    fills-as {other = plus_minus c.args.mask c.args.h.len c.args.h.mark (bits_of c.args.octets.now) c.args.h.at}
    c.plus_minus.ensures (of-tool (goal.at.returns-in-6 c).Start 6 c.in-6.is) (omega (arith, c.requires.0.at))

pub returns-in_default : goal.returns-in_default
unfolding body_by body
returns-in_default c =
    let last = last-body c.args.mask c.args.h.tool c.args.h.len c.args.h.mark
    (omega arith) (omega arith) (omega arith) (omega arith) (omega arith) (omega arith) in
    fills-as {other = cond (eqb c.args.h.tool 11) (fractional c.args.mask c.args.h.mark c.args.h.len)
    (located c.args.mask c.args.h.len) (bits_of c.args.octets.now) c.args.h.at}
    c.few_values.ensures (ap (λ (r : Reader (List ℕ)). r (bits_of c.args.octets.now) c.args.h.at) last)
    (omega (arith, c.requires.0.at))
