-- Room, and the form put (Writing).
use Rattle.writer.proofs.Writing.{chosen-left, chosen-fits, chosen-put}
use Rattle.writer.proofs.fit_plain.Goals as goal

pub returns-then-out-octets_for : goal.returns-then-out-octets_for
returns-then-out-octets_for c = chosen-left c.requires.chosen.0 c.octets_for.ensures c.if-out-octets_for.true

pub put_plain-requires : goal.put_plain-requires
put_plain-requires c =
    record {
      frame_in = c.requires.frame_in;
      plain_is = c.requires.chosen.1;
      samples_len_bound = chosen-fits c.requires.chosen.0 c.octets_for.ensures c.if-out-octets_for.false;
    }

pub returns : goal.returns
returns c =
    chosen-put c.requires.chosen.0 c.octets_for.ensures c.if-out-octets_for.false c.put_plain.ensures
