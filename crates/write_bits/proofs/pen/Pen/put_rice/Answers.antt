use Rattle.std.proofs.Common.{ℕ, ◌^◌, ◌/◌, arith}
use lib.ListN.{length-replicate}
use Rattle.write_bits.proofs.Putting.{able-as, able-then}
use Rattle.write_measure.proofs.Rice.{length-rice_form, one_shifted}
use Rattle.write_bits.proofs.Rice.{rice-fits, rice-short, rice-long}
use Rattle.write_bits.proofs.pen.Pen.put_rice.Goals as goal

pub put-requires : goal.put-requires
put-requires c =
    record {
      able = able-as c.requires.able (omega (arith, length-rice_form c.args.s c.args.v));
      n_bound = (omega arith, rice-fits _ _ _ (one_shifted _ c.requires.s_bound));
    }

pub returns-then-zeros-le16 : goal.returns-then-zeros-le16
returns-then-zeros-le16 c = rice-short c.args.s c.args.v (one_shifted _ c.requires.s_bound) c.put.ensures

pub put_zeros-requires : goal.put_zeros-requires
put_zeros-requires c = able-as c.requires.able (omega (arith, length-rice_form c.args.s c.args.v))

pub put-requires-else-zeros-le16 : goal.put-requires-else-zeros-le16
put-requires-else-zeros-le16 c =
    let z = c.put_zeros in
    let k = length-replicate {A = ℕ} (c.args.v / 2 ^ c.args.s) 0 in
    record {
      able = able-then _ c.requires.able z.ensures z.auto.out (omega (arith, length-rice_form c.args.s c.args.v));
      n_bound = (omega arith, rice-fits 0 _ _ (one_shifted _ c.requires.s_bound));
    }

pub returns-else-zeros-le16 : goal.returns-else-zeros-le16
returns-else-zeros-le16 c =
    rice-long c.args.s c.args.v (one_shifted _ c.requires.s_bound) c.put_zeros.ensures c.put-else-zeros-le16.ensures
