use mathlib.Core.Path.{refl}
use Rattle.s_codes.proofs.Coded.{code_is}
use Rattle.s_codes.proofs.code_of.Goals as goal

pub returns : goal.returns
returns c = rw (c.from.ensures, c.from-2.ensures) (code_is c.table_of-t.ensures c.requires.0 refl refl)
