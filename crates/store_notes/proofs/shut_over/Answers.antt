use native.Mathlib.Omega.{arith}
use Rattle.store_notes.proofs.Opening.{shut-is}
use Rattle.store_notes.proofs.shut_over.Goals as goal

pub returns : goal.returns
returns c =
    let s = c.args in
    shut-is s.cells.now s.at s.used s.by (omega arith) c.copy_within.ensures.after
