use native.Mathlib.Omega.{arith}
use Rattle.recording_write.proofs.Cells.{length-le}
use Rattle.recording_write.proofs.sizes.item_most.Goals as goal

pub overflow_add-result : goal.overflow_add-result
overflow_add-result c = omega (arith, c.length_in.ensures, length-le c.args.c)

pub returns : goal.returns
returns c = (omega (arith, c.length_in.ensures), omega (arith, c.length_in.ensures, length-le c.args.c))
