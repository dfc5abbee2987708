-- The answer for what was planned and put (Writing).
use Rattle.writer.proofs.Writing.{chosen-refused, chosen-written}
use Rattle.writer.proofs.write_left.Goals as goal

pub octets_for-octets-requires : goal.octets_for-octets-requires
octets_for-octets-requires c = c.fit_left-choice.ensures.chosen.small

pub returns-then-out-octets : goal.returns-then-out-octets
returns-then-out-octets c =
    let put = c.fit_left-choice in
    chosen-refused put.ensures put.auto.out c.octets_for-octets.ensures c.if-out-octets.true c.refused.ensures

pub returns : goal.returns
returns c =
    let put = c.fit_left-choice in
    chosen-written put.ensures put.auto.out c.octets_for-octets.ensures c.if-out-octets.false c.wrote.ensures
