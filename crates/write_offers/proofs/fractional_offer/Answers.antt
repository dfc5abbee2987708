-- fractional_offer
use mathlib.Core.Path.{refl, ◌∙◌}
use native.Mathlib.Omega.{arith}
use Rattle.write_offers.proofs.Offering.{met, unmet, row-bits, row-applies, row-unmet, row-few}
use Rattle.write_offers.proofs.fractional_offer.Goals as goal

pub bits_of-requires : goal.bits_of-requires
bits_of-requires c =
    (row-few c.args.mask c.args.frame.now c.in-Some.ensures.row, c.requires.0.few)

pub returns-in-Some : goal.returns-in-Some
returns-in-Some c =
    let f = c.args.frame.now in
    let row = c.in-Some.ensures.row in
    met c.args.mask 11 f (row-applies c.args.mask f row) (c.bits_of.ensures.0 ∙ row-bits c.args.mask f row)
    (omega (arith, c.bits_of.ensures.1)) refl

pub returns-in-None : goal.returns-in-None
returns-in-None c =
    unmet c.args.mask 11 c.args.frame.now (λ z. omega arith) (row-unmet c.args.mask c.args.frame.now c.in-None.ensures.row) refl
