-- What the walk gives, beside what the text says: samples, then marks.
use Prim.Native.Nat.{ℕ}
use mathlib.Core.Path.{ap, ◌∙◌}
use native.Mathlib.Omega.{arith}
use Rattle.store_greeting.specs.Marks.{note_of}
use Rattle.store_notes.proofs.Taken.{taken, heard-small}
use Rattle.store_text.specs.Passing.{next_of, samples_is}
use Rattle.store_text.proofs.Marks.{note-astray}
use Rattle.store_save.proofs.Compared.{note-told}
use Rattle.store_save.proofs.Small.{fine-law, tally-wrong}
use Rattle.store_save.proofs.same_note.Goals as goal

pub take-requires : goal.take-requires
take-requires c = let p = c.requires in (fine-law _ _ p.1, omega arith)

pub returns-in_err-taken : goal.returns-in_err-taken
returns-in_err-taken c = tally-wrong c.take.ensures c.requires.1 (c.in_err-taken.was)

pub samples_are-requires : goal.samples_are-requires
samples_are-requires c =
    let p = c.requires in
    let t = taken c.take.ensures (c.in_ok-taken.was) (fine-law _ _ p.1) (omega (arith, p.0)) c.take.auto.marks in
    omega (arith, heard-small t.heard)

pub returns-in_err-at : goal.returns-in_err-at
returns-in_err-at c =
    let a = c.args in
    let p = c.requires in
    let t = taken c.take.ensures (c.in_ok-taken.was) (fine-law _ _ p.1) (omega (arith, p.0)) c.take.auto.marks in
    let note = note_of a.law a.octets.now in
    c.from_residual-in_err-at.ensures
    ∙ note-astray note.samples note.marks a.text.now a.place
    ((c.in_err-at.ensures) ∙ ap (λ (n : ℕ). next_of (samples_is n a.text.now a.place)) t.heard.samples-are)

pub same_marks-requires : goal.same_marks-requires
same_marks-requires c =
    let p = c.requires in
    taken c.take.ensures (c.in_ok-taken.was) (fine-law _ _ p.1) (omega (arith, p.0)) c.take.auto.marks

pub returns : goal.returns
returns c =
    let a = c.args in
    let p = c.requires in
    let t = taken c.take.ensures (c.in_ok-taken.was) (fine-law _ _ p.1) (omega (arith, p.0)) c.take.auto.marks in
    let note = note_of a.law a.octets.now in
    note-told note.samples note.marks a.text.now a.place
    ((c.in_ok-at.ensures) ∙ ap (λ (n : ℕ). next_of (samples_is n a.text.now a.place)) t.heard.samples-are) c.same_marks.ensures
