use mathlib.Core.Path.{sym}
use Rattle.mending.proofs.Filling.{filling-length}
use Rattle.mending.proofs.fill_octets.Goals as goal

pub returns : goal.returns
returns c = sym (filling-length c.args.left)
