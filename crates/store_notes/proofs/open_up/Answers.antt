use native.Mathlib.Omega.{arith}
use Rattle.store_rows.proofs.Hopping.{all-written}
use Rattle.store_notes.proofs.Opening.{opened-is}
use Rattle.store_notes.proofs.open_up.Goals as goal

pub returns : goal.returns
returns c =
    let s = c.args in
    opened-is s.cells.now s.at s.used s.new.now (omega arith) (omega arith) c.copy_within.ensures.after
    (all-written c.copy_within.new.self s.at c.copy_over.ensures.after (omega arith))
