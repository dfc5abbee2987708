use mathlib.Core.Path.{sym, ap}
use Rattle.store_jump.specs.Jump.{counted}
use Rattle.store_jump.proofs.jumping.count_read.Goals as goal

pub returns-in-Some : goal.returns-in-Some
returns-in-Some c = sym (ap counted c.in-Some.is)

pub returns-in-None : goal.returns-in-None
returns-in-None c = sym (ap counted c.in-None.is)
