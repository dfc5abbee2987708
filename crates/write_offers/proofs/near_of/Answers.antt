-- No row, a rare one, or what value-location would write (Offering).
use mathlib.Core.Path.{refl, sym, ◌∙◌}
use Rattle.write_located.proofs.Rows.{row-none, row-has, applied-is}
use Rattle.write_offers.proofs.Offering.{rowless, rare}
use Rattle.write_offers.proofs.near_of.Goals as goal

pub returns-in-None : goal.returns-in-None
returns-in-None c =
    rowless c.args.mask c.args.frame.now refl c.requires.frame_in.1.1
    (row-none c.tally_of-tally.ensures refl (sym c.row_of.ensures ∙ c.in-None.is))

pub returns-then-not-zero_leads : goal.returns-then-not-zero_leads
returns-then-not-zero_leads c =
    let has = sym c.in-Some.is ∙ c.row_of.ensures in
    let off = sym (applied-is c.tally_of-tally.ensures refl has c.zero_leads.ensures c.requires.frame_in.1.1) ∙ c.if-not-zero_leads.true in
    (off, rare c.args.mask c.args.frame.now refl c.requires.frame_in.1.1 (row-has c.tally_of-tally.ensures refl has) off)

pub located_of-requires : goal.located_of-requires
located_of-requires c =
    let has = sym c.in-Some.is ∙ c.row_of.ensures in
    record {
      frame_in = (c.requires.frame_in.0, c.requires.frame_in.1.0);
      tallied = (
        c.tally_of-tally.ensures,
        sym (applied-is c.tally_of-tally.ensures refl has c.zero_leads.ensures c.requires.frame_in.1.1) ∙ c.if-not-zero_leads.false,
      );
      row_value = has;
    }

pub returns-else-not-zero_leads : goal.returns-else-not-zero_leads
returns-else-not-zero_leads c =
    let has = sym c.in-Some.is ∙ c.row_of.ensures in (
      sym (applied-is c.tally_of-tally.ensures refl has c.zero_leads.ensures c.requires.frame_in.1.1) ∙ c.if-not-zero_leads.false,
      c.located_of.ensures,
    )
