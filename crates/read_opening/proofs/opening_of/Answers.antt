use native.Mathlib.Omega.{arith}
use mathlib.Core.Path.{◌≡◌, refl, sym, ap, ◌∙◌}
use mathlib.Core.List.{List}
use Prim.Native.Nat.{ℕ, ◌≤◌, ◌<◌}
use mathlib.Core.Bool.{false}
use lib.Dec.{eqb}
use lib.ListN.{get_or}
use borrow.Author.Tests.{eqb-true, eqb-false}
use Rattle.rules.specs.First.{pad, first_octet}
use Rattle.rules.specs.Bits.{bits_of}
use Rattle.rules.specs.Frame.{after_first, frame}
use Rattle.first_octet.specs.declared.Begins.{Begins}
use Rattle.first_octet.specs.declared.Begins.TheVariants.{Unassigned, Pad, Tool, SixOrEight}
use Rattle.first_octet.specs.Answers.{as_first}
use Rattle.read_opening.proofs.Opened.{opened, zero-pad, no-octets, LengthKnown, length-known}
use Rattle.read_opening.proofs.opening_of.Goals.{After-first_octet}
use Rattle.read_opening.proofs.opening_of.Goals as goal

some-octets : (n : ℕ) → false ≡ eqb n 0 → 1 ≤ n
some-octets n e = let h = eqb-false n 0 (sym e) in omega arith

pub returns-then-is_empty : goal.returns-then-is_empty
returns-then-is_empty c = record { says = no-octets c.args.octets.now (eqb-true _ 0 (sym c.if-is_empty.ensures)); ranges = tt }

-- 00 begins a pad, by the table's rule too
pub returns-then-first-eq0 : goal.returns-then-first-eq0
unfolding after_first
returns-then-first-eq0 c =
    let l = c.args.octets.now in
    record { says = opened l (some-octets _ c.if-is_empty.ensures) (omega arith) pad (zero-pad (get_or l 0 0) c.if-first-eq0.true); ranges = tt }

-- what the first octet begins, b
module _ (c : After-first_octet) (b : Begins) (e : c.first_octet.result ≡ b) where
  abbrev octets : List ℕ
  octets = c.args.octets.now

  small : get_or octets 0 0 < 256
  small = omega (arith, c.shared_slice_known-2-1.given 0)

  begins : as_first (get_or octets 0 0) b ≡ first_octet (get_or octets 0 0)
  begins = sym (ap (as_first (get_or octets 0 0)) e) ∙ c.first_octet.ensures

  says : (mask set room : ℕ) → after_first mask set room (as_first (get_or octets 0 0) b) (bits_of octets) 8 ≡ frame mask set
      room (bits_of octets) 0
  says = opened octets (some-octets _ c.if-is_empty.ensures) small (as_first (get_or octets 0 0) b) begins

  known : LengthKnown (get_or octets 0 0) b
  known = length-known (get_or octets 0 0) small b begins

pub six_or_eight-requires : goal.six_or_eight-requires
six_or_eight-requires c = (
  known (goal.at.six_or_eight-requires c).After-first_octet (SixOrEight c.in-SixOrEight.n) c.in-SixOrEight.is,
  some-octets _ c.if-is_empty.ensures,
)

pub returns-in-Unassigned : goal.returns-in-Unassigned
unfolding after_first
returns-in-Unassigned c = record { says = says (goal.at.returns-in-Unassigned c).After-first_octet Unassigned c.in-Unassigned.is; ranges = tt }

pub returns-in-Pad : goal.returns-in-Pad
unfolding after_first
returns-in-Pad c = record { says = says (goal.at.returns-in-Pad c).After-first_octet Pad c.in-Pad.is; ranges = tt }

pub row_in-requires : goal.row_in-requires
row_in-requires c =
    (known (goal.at.row_in-requires c).After-first_octet (Tool c.in-Tool.t c.in-Tool.n) c.in-Tool.is).code

pub returns-in-Tool : goal.returns-in-Tool
unfolding after_first
returns-in-Tool c =
    let b = Tool c.in-Tool.t c.in-Tool.n in
    let k = known (goal.at.returns-in-Tool c).After-first_octet b c.in-Tool.is in
    record {
      says = λ mask set room. rw c.row_in.ensures
          (k.says mask set room _ 8 ∙ says (goal.at.returns-in-Tool c).After-first_octet b c.in-Tool.is mask set room);
      ranges = (record { len = k.len; mark = rw c.row_in.ensures k.row; at = omega arith; whole-octet = λ h. refl }, some-octets _ c.if-is_empty.ensures);
    }

pub returns-in-SixOrEight : goal.returns-in-SixOrEight
returns-in-SixOrEight c =
    record {
      says = λ mask set room. c.six_or_eight.ensures.says mask set room 8
          ∙ says (goal.at.returns-in-SixOrEight c).After-first_octet (SixOrEight c.in-SixOrEight.n) c.in-SixOrEight.is
          mask set room;
      ranges = c.six_or_eight.ensures.ranges;
    }
