-- rice_offer
use mathlib.Core.Path.{refl, sym, ◌∙◌}
use borrow.Author.Tests.{eq-eqb, ne_eqb}
use Rattle.write_zeros.proofs.TwoZeros.{zeros-apply, zeros-counted}
use Rattle.write_zeros.proofs.Turning.{row-flags}
use Rattle.write_offers.proofs.Offering.{met, unmet, rice-form}
use native.Mathlib.Omega.{arith}
use Rattle.write_offers.proofs.rice_offer.Goals as goal

pub returns-then-z-frame : goal.returns-then-z-frame
returns-then-z-frame c =
    let m = c.args.mask in
    let f = c.args.frame.now in
    let z = c.zeros_in-z.ensures in
    let off = zeros-apply m f ∙ sym (zeros-counted m f refl z.plus z.minus) ∙ ne_eqb _ _ c.if-z-frame.true in
    unmet m 6 f (omega arith) off refl

pub returns : goal.returns
returns c =
    let m = c.args.mask in
    let f = c.args.frame.now in
    let z = c.zeros_in-z.ensures in
    let zeros = sym (zeros-counted m f refl z.plus z.minus) ∙ eq-eqb _ _ c.if-z-frame.false in
    let row = row-flags m f c.plus_zero.ensures c.others-row.ensures in
    let r = c.rice_of-rice.ensures m f (record { size = refl; zeros = zeros; plus = z.plus; minus = z.minus; flags = row }) in
    met m 6 f (zeros-apply m f ∙ zeros) (r.bits ∙ rice-form m f) r.small refl
