-- Binary at once, or the better of uncompressed, Rice and binary (Planning, Even).
use Prim.Native.Nat.{◌-◌, ◌≤◌}
use mathlib.Core.Path.{refl, sym, ap, ◌∙◌}
use lib.ListN.{length}
use native.Mathlib.Omega.{arith}
use Rattle.write_offers.specs.declared.Choice.{Choice}
use Rattle.write_scan.proofs.Tests.{mask-seven}
use Rattle.write_located.proofs.Near.{counted, count_fits}
use Rattle.write_zeros.specs.Rice.{ZerosAre}
use Rattle.write_zeros.proofs.TwoZeros.{plus-left}
use Rattle.write_choice.proofs.Planning.{binary-planned, zeros-without, zeros-planned}
use Rattle.write_choice.proofs.Even.{binary-settled}
use Rattle.write_choice.proofs.two_zeros.zeros_plan.Goals.{After-count_of-minus}
use Rattle.write_choice.proofs.two_zeros.zeros_plan.Goals as goal

pub minus_zero-requires : goal.minus_zero-requires
minus_zero-requires c = mask-seven _ c.requires.frame_in.1

-- how many there are of each zero
module _ (c : After-count_of-minus) where
  fits : c.count_of-minus.result ≤ length c.args.frame.now
  fits = count_fits c.minus_zero.result c.args.frame.now c.count_of-minus.ensures.0

  are : ZerosAre c.args.mask (length c.args.frame.now) (length c.args.frame.now - c.count_of-minus.result) c.count_of-minus.result
      c.args.row.now c.args.frame.now
  are =
      let m = counted c.args.frame.now c.count_of-minus.ensures.0 c.minus_zero.ensures in
      let plus = plus-left c.args.mask c.args.frame.now c.requires.left.1 refl m in
      record { size = refl; zeros = c.requires.left.1; plus = plus; minus = m; flags = c.requires.row_is }

pub overflow_sub-plus : goal.overflow_sub-plus
overflow_sub-plus c = fits (goal.at.overflow_sub-plus c).After-count_of-minus

pub returns-then-binary_at_once : goal.returns-then-binary_at_once
returns-then-binary_at_once c =
    let pre = c.requires in
    let i = are (goal.at.returns-then-binary_at_once c).After-count_of-minus in
    let five = binary-settled c.args.mask c.args.frame.now refl pre.frame_in.0.whole i.plus i.minus
    (omega (arith, fits (goal.at.returns-then-binary_at_once c).After-count_of-minus)) c.args.set (mask-seven _ pre.frame_in.1) pre.left.1 pre.frame_in.0.few
    c.binary_at_once.ensures c.if-binary_at_once.true in
    binary-planned refl pre.frame_in.0.few (pre.left.0.later ∙ five) c.binary_bits-bits.ensures pre.row_is

pub better-five-requires : goal.better-five-requires
better-five-requires c =
    let few = c.requires.frame_in.0.few in (
      omega (arith, ap (λ (k : Choice). k.bits) c.uncompressed_of-uncompressed.ensures, few),
      omega (arith, c.binary_bits-bits.ensures, few),
    )

pub returns-then-not-holds : goal.returns-then-not-holds
returns-then-not-holds c =
    let pre = c.requires in
    rw c.plain_by.ensures
    (zeros-without c.args.mask c.args.set c.args.frame.now (mask-seven _ pre.frame_in.1) pre.left.1 refl pre.frame_in.0.few
    pre.left.0.later c.uncompressed_of-uncompressed.ensures
    c.holds-then-not-holds.ensures c.binary_bits-bits.ensures pre.row_is (sym c.holds.ensures ∙ c.if-not-holds.true) c.better-five.ensures)

pub better-six-requires : goal.better-six-requires
better-six-requires c =
    let few = c.requires.frame_in.0.few in (
      omega (arith, ap (λ (k : Choice). k.bits) c.uncompressed_of-uncompressed.ensures, few),
      (c.rice_of-rice.ensures c.args.mask c.args.frame.now (are (goal.at.better-six-requires c).After-count_of-minus)).small,
    )

pub better-five-requires-2 : goal.better-five-requires-2
better-five-requires-2 c =
    let few = c.requires.frame_in.0.few in
    (c.better-six.ensures.small, omega (arith, c.binary_bits-bits.ensures, few))

pub returns : goal.returns
returns c =
    let pre = c.requires in
    rw c.zeros_by.ensures
    (zeros-planned c.args.mask c.args.set c.args.frame.now (mask-seven _ pre.frame_in.1) pre.left.1 refl pre.frame_in.0.few
    pre.left.0.later c.uncompressed_of-uncompressed.ensures
    c.holds-2.ensures c.binary_bits-bits.ensures pre.row_is (sym c.holds.ensures ∙ c.if-not-holds.false)
    (c.rice_of-rice.ensures c.args.mask c.args.frame.now (are (goal.at.returns c).After-count_of-minus))
    c.better-six.ensures c.better-five-2.ensures)
