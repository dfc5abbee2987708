use mathlib.Core.Path.{refl}
use native.Mathlib.Omega.{arith}
use mathlib.Core.Path.{◌≡◌}
use Rattle.write_offers.proofs.Offering.{uncompressed-offer, plus-offer, minus-offer, constant-offer}
use Rattle.write_offers.proofs.whole_offer.Goals as goal

pub returns-in-1 : goal.returns-in-1
returns-in-1 c =
    let bits = rw c.in-1.is at c.whole_bits-bits.ensures in
    rw c.in-1.is (uncompressed-offer c.args.mask c.args.frame.now refl c.requires.frame_in.0.few bits refl)

pub returns-in-2 : goal.returns-in-2
returns-in-2 c =
    let bits = rw c.in-2.is at c.whole_bits-bits.ensures in
    rw c.in-2.is (plus-offer c.args.mask c.args.frame.now c.plus_zero.ensures bits c.one_value_offer.ensures)

pub returns-in-3 : goal.returns-in-3
returns-in-3 c =
    let bits = rw c.in-3.is at c.whole_bits-bits.ensures in
    rw c.in-3.is (minus-offer c.args.mask c.args.frame.now c.minus_zero.ensures bits c.one_value_offer-in-3.ensures)

pub returns-in_default : goal.returns-in_default
returns-in_default c =
    let t : c.args.tool ≡ 4 = omega arith in
    let bits = rw t at c.whole_bits-bits.ensures in
    rw t (constant-offer c.args.mask c.args.frame.now refl bits c.one_value_offer-in_default.ensures)
