-- The condition that fails, or the bits of what value-location would write (Offering).
use mathlib.Core.Path.{refl}
use Rattle.rules.specs.Chooses.{form_of}
use Rattle.write_offers.proofs.Offering.{met, near-fails, handed_on}
use Rattle.write_offers.proofs.near_offer.Goals as goal

pub returns-in_err-located : goal.returns-in_err-located
returns-in_err-located c =
    let e = c.in_err-located.ensures in
    near-fails c.args.mask c.args.frame.now _ e.0 e.1 (handed_on c.from_residual.result c.from_residual.ensures.1)

pub returns : goal.returns
unfolding form_of
returns c =
    let e = c.in_ok-located.ensures in
    met c.args.mask 7 c.args.frame.now e.0 e.1.bits e.1.small refl
