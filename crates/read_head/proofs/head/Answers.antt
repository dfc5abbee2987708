-- SET, SHORT, and then what the first octet begins (Headed).
use Prim.Native.Nat.{ℕ, ◌≤◌, ◌<◌}
use native.Mathlib.Omega.{arith}
use mathlib.Core.Path.{◌≡◌, refl, sym, ap, ◌∙◌}
use mathlib.Core.List.{List}
use mathlib.Core.Bool.{false}
use lib.Dec.{eqb}
use lib.ListN.{get_or}
use borrow.Author.Tests.{eqb-true, eqb-false}
use Rattle.rules.specs.Bits.{bits_of}
use Rattle.first_octet.specs.declared.Begins.{Begins}
use Rattle.first_octet.specs.declared.Begins.TheVariants.{Unassigned, Pad, Tool, SixOrEight}
use Rattle.first_octet.specs.Answers.{as_first}
use Rattle.read_head.specs.Heads.{head_after, head_of}
use Rattle.read_head.proofs.Headed.{heads-as, head-set, head-short, headed, headed-tool}
use Rattle.read_head.proofs.head.Goals.{After-first_octet}
use Rattle.read_head.proofs.head.Goals as goal

some-octets : (n : ℕ) → false ≡ eqb n 0 → 1 ≤ n
some-octets n e = let h = eqb-false n 0 (sym e) in omega arith

pub returns-then-set-gt-ALL_TOOLS : goal.returns-then-set-gt-ALL_TOOLS
returns-then-set-gt-ALL_TOOLS c = heads-as (head-set _ _ c.if-set-gt-ALL_TOOLS.true) (c.refused.ensures 0)

pub returns-then-is_empty : goal.returns-then-is_empty
returns-then-is_empty c = heads-as (head-short _ _ c.if-set-gt-ALL_TOOLS.false (eqb-true _ 0 (sym c.if-is_empty.ensures))) (c.refused-then-is_empty.ensures 0)

-- what the first octet begins, b
module _ (c : After-first_octet) (b : Begins) (e : c.first_octet.result ≡ b) where
  abbrev octets : List ℕ
  octets = c.args.octets.now

  small : get_or octets 0 0 < 256
  small = omega (arith, c.shared_slice_known-2-1.given 0)

  says : head_after c.args.set (as_first (get_or octets 0 0) b) (bits_of octets) 8 ≡ head_of octets c.args.set
  says = headed octets c.args.set c.if-set-gt-ALL_TOOLS.false (some-octets _ c.if-is_empty.ensures) small (as_first (get_or octets 0 0) b)
      (sym (ap (as_first (get_or octets 0 0)) e) ∙ c.first_octet.ensures)

pub returns-in-Unassigned : goal.returns-in-Unassigned
unfolding head_after
returns-in-Unassigned c = heads-as (says (goal.at.returns-in-Unassigned c).After-first_octet Unassigned c.in-Unassigned.is) (c.refused-in-Unassigned.ensures 0)

pub returns-in-Pad : goal.returns-in-Pad
unfolding head_after
returns-in-Pad c = heads-as (says (goal.at.returns-in-Pad c).After-first_octet Pad c.in-Pad.is) (record { end = refl; tool = refl; samples = refl })

pub returns-in-Tool : goal.returns-in-Tool
returns-in-Tool c =
    heads-as (headed-tool _ _ _ _ _ 8
    ∙ says (goal.at.returns-in-Tool c).After-first_octet (Tool c.in-Tool.t c.in-Tool.n) c.in-Tool.is) (c.by_tool.ensures _ 8)

pub returns-in-SixOrEight : goal.returns-in-SixOrEight
returns-in-SixOrEight c =
    heads-as (says (goal.at.returns-in-SixOrEight c).After-first_octet (SixOrEight c.in-SixOrEight.n) c.in-SixOrEight.is)
    (c.six_told.ensures 8)
