use Rattle.s_codes.proofs.Coded.{lengths-are}
use Rattle.s_codes.proofs.lengths_of.Goals as goal

pub returns : goal.returns
returns c = lengths-are c.table_of.ensures
