use Rattle.write_located.proofs.Near.{counted}
use Rattle.write_offers.proofs.zeros_in.Goals as goal

pub returns : goal.returns
returns c =
    let f = c.args.frame.now in
    let plus = c.count_of.ensures in
    let minus = c.count_of-2.ensures in
    record {
      plus = counted f plus.0 c.plus_zero.ensures;
      minus = counted f minus.0 c.minus_zero.ensures;
      few-plus = plus.1;
      few-minus = minus.1;
    }
