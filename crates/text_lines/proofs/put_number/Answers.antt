-- A number is its digits, put as a word.
use mathlib.Core.Path.{ap}
use lib.ListN.{length}
use native.Mathlib.Omega.{arith}
use Rattle.text_lines.proofs.Putting.{puts-as}
use Rattle.text_lines.proofs.put_number.Goals as goal

pub put_word-requires : goal.put_word-requires
put_word-requires c = omega (arith, ap length c.spell.ensures)

pub returns : goal.returns
returns c = puts-as c.spell.ensures c.put_word.ensures
