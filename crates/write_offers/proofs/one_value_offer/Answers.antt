use mathlib.Core.Path.{◌∙◌}
use Rattle.write_offers.proofs.one_value_offer.Goals as goal

pub returns : goal.returns
returns c = c.offer_if.ensures ∙ rw c.count_of.ensures.0
