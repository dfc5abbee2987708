-- located_offer
use mathlib.Core.Path.{refl, sym, ◌∙◌}
use borrow.Author.Tests.{lt-ltb, le-ltb}
use Rattle.write_scan.proofs.Tests.{mask-seven}
use Rattle.write_offers.proofs.Offering.{short-offer, far-offer}
use Rattle.write_offers.proofs.located_offer.Goals as goal

pub returns-then-frame-lt80 : goal.returns-then-frame-lt80
returns-then-frame-lt80 c = short-offer c.args.mask c.args.frame.now refl c.if-frame-lt80.true refl

pub spread_of-l-requires : goal.spread_of-l-requires
spread_of-l-requires c = record { some = c.requires.0.some; mask_bound = mask-seven _ c.requires.1 }

pub returns-then-l-ge2 : goal.returns-then-l-ge2
returns-then-l-ge2 c =
    far-offer c.args.mask c.args.frame.now refl c.if-frame-lt80.false (sym c.spread_of-l.ensures.close ∙ le-ltb _ 2 c.if-l-ge2.true) refl

pub near_offer-requires : goal.near_offer-requires
near_offer-requires c =
    record {
      frame_in = (c.requires.0, (c.requires.1, c.if-frame-lt80.false));
      samples_value = sym c.spread_of-l.ensures.close ∙ lt-ltb _ 2 c.if-l-ge2.false;
    }
