-- The runs of the common zero's flags, and what the parameter costs (TwoZeros, Turning).
use Rattle.std.proofs.Common.{◌∙◌}
use Rattle.write_scan.proofs.Rows.{test_byte}
use Rattle.write_zeros.proofs.TwoZeros.{rice-is}
use Rattle.write_zeros.proofs.Turning.{common-turned}
use Rattle.write_zeros.proofs.rice_of.Goals as goal

pub returns : goal.returns
returns c =
    λ mask s z. rice-is mask s z.size z.plus z.minus (c.from-mark.ensures ∙ test_byte _)
    (rw (z.flags.says, common-turned mask c.args.plus c.args.minus s z.zeros) at c.turned_runs-count.ensures)
    c.lengths_of.ensures c.most_s.ensures.0 c.most_s.ensures.1.1 c.least_s-least.ensures c.start_bits.ensures
