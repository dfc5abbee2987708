-- What was taken, put behind the rest (notes, Taken).
use native.Mathlib.Omega.{arith}
use Rattle.store_notes.proofs.Taken.{taken, heard-few}
use Rattle.store_save.proofs.Small.{fine-law, tally-wrong}
use Rattle.store_save.proofs.store_note.Goals as goal

pub take-requires : goal.take-requires
take-requires c = let p = c.requires in (fine-law _ _ p.fine, omega (arith, p.small))

pub put_taken-requires : goal.put_taken-requires
put_taken-requires c =
    let p = c.requires in
    let t = taken c.take.ensures c.in-Some.is (fine-law _ _ p.fine) (omega (arith, p.small))
    c.take.auto.marks in
    (record { count = p.count; few = p.few; among = omega arith; room = omega (arith, p.room, heard-few t.heard) }, t)

pub returns-in_default : goal.returns-in_default
returns-in_default c =
    tally-wrong c.take.ensures c.requires.fine c.in_default.is
