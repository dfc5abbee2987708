use Rattle.write_scan.proofs.Tests.{mask-seven}
use Rattle.write_located.proofs.Near.{counted, fewer, tallied}
use Rattle.rules.proofs.Octets.{below_all}
use mathlib.Core.Path.{refl}
use native.Mathlib.Omega.{arith}
use Rattle.write_located.proofs.tally_of.Goals as goal

pub sample_of-requires : goal.sample_of-requires
sample_of-requires c = mask-seven _ c.requires.frame_in.1.1

pub minus_zero-requires : goal.minus_zero-requires
minus_zero-requires c = mask-seven _ c.requires.frame_in.1.1

pub sample_of-requires-2 : goal.sample_of-requires-2
sample_of-requires-2 c = mask-seven _ c.requires.frame_in.1.1

pub overflow_sub-result : goal.overflow_sub-result
overflow_sub-result c =
    let f = c.args.frame.now in
    let o = below_all f (λ i. (c.shared_slice_known-1.given i).fits) in
    let e₁ = counted f c.count_of-one.ensures.0 c.sample_of.ensures in
    let e₂ = counted f c.count_of-minus.ensures.0 c.minus_zero.ensures in
    let e₃ = counted f c.count_of-twos.ensures.0 c.sample_of-2.ensures in
    omega (arith, e₁, e₂, e₃, fewer c.args.mask c.requires.frame_in.1.1 o c.requires.samples_value)

pub returns : goal.returns
returns c =
    let f = c.args.frame.now in
    let o = below_all f (λ i. (c.shared_slice_known-1.given i).fits) in
    let e₁ = counted f c.count_of-one.ensures.0 c.sample_of.ensures in
    let e₂ = counted f c.count_of-minus.ensures.0 c.minus_zero.ensures in
    let e₃ = counted f c.count_of-twos.ensures.0 c.sample_of-2.ensures in
    tallied c.requires.frame_in.1.1 o c.requires.samples_value refl c.requires.frame_in.0 e₁ e₂ e₃ refl
