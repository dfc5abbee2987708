-- binary_offer
use mathlib.Core.Path.{refl, sym, ◌∙◌}
use Rattle.write_zeros.proofs.TwoZeros.{rice-applies, zeros-apply, zeros-counted}
use Rattle.write_offers.proofs.Choosing.{binary-bits}
use Rattle.write_offers.proofs.Offering.{offer-one}
use native.Mathlib.Omega.{arith}
use Rattle.write_offers.proofs.binary_offer.Goals as goal

pub returns : goal.returns
returns c =
    let m = c.args.mask in
    let f = c.args.frame.now in
    let z = c.zeros_in-z.ensures in
    let on = rice-applies m f ∙ zeros-apply m f ∙ sym (zeros-counted m f refl z.plus z.minus) in
    offer-one m 5 f (omega arith) on (c.binary_bits.ensures ∙ binary-bits m f refl)
    (omega (arith, c.binary_bits.ensures, c.requires.0.few)) c.offer_if.ensures
