use Rattle.std.proofs.Common.{◌∙◌}
use Rattle.write_fractional.proofs.Told.{row_told}
use Rattle.write_fractional.proofs.reducing.row_of.Goals as goal

pub returns-clause-row : goal.returns-clause-row
returns-clause-row c =
    c.find_row.ensures.row
    ∙ row_told c.args.mask c.args.frame.now c.extent_of-extent.ensures c.minus_zero.ensures c.count_of-minus.ensures.0
    c.row_count.ensures.0
