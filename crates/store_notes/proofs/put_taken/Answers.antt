use Prim.Native.Nat.{ℕ, ◌*◌, ◌-◌}
use mathlib.Core.Path.{◌≡◌, refl, ap, ◌∙◌}
use mathlib.Core.List.{List, ◌++◌}
use native.Mathlib.Omega.{arith}
use lib.ListN.{length, get_or, take, drop, length-drop}
use lib.Seq.{get_or-drop}
use Rattle.store_rows.specs.Rows.{row_of}
use Rattle.store_rows.specs.Cells.{rows_of, laid}
use Rattle.store_rows.specs.Changed.{insert_at}
use Rattle.rules.proofs.Lent.{from_on}
use Rattle.store_greeting.specs.Marks.{note_of, mark_cells}
use Rattle.store_notes.specs.Cells.{heads_of}
use Rattle.store_notes.specs.Changed.{opened}
use Rattle.store_notes.proofs.Stored.{part-made, part_length, heads-more, held_all, marks-order, note-put}
use Rattle.store_notes.proofs.Taken.{heard-small, heard-few, heard-row}
use Rattle.store_notes.proofs.put_taken.Goals as goal

pub insert-requires : goal.insert-requires
insert-requires c =
    let t = c.args.table.now in
    let e = from_on t 97 in
    let first : get_or (take (length t - 97) (drop 97 t)) 0 0 ≡ get_or t 97 0 = ap (λ (x : List ℕ). get_or x 0 0) e ∙ get_or-drop 97
    t 0 0 in
    let h = c.requires.1.heard in
    record {
      n_value = (omega (arith, first), omega arith, omega arith, rw e (omega (arith, length-drop 97 t)));
      number_bound = (omega arith, omega (arith, heard-small h), omega (arith, heard-few h, h.short));
    }

pub open_taken-requires : goal.open_taken-requires
open_taken-requires c =
    let s = c.args in
    let t = s.table.now in
    let r = row_of s.head.law s.head.samples s.head.marks in
    let made = part-made 97 (λ (u : List ℕ). laid (insert_at s.i r (rows_of u)) u) t c.insert.ensures refl in
    let size = part_length t s.n s.i (omega arith) (omega arith) (omega arith) (insert_at s.i r (heads_of t))
    (heads-more t s.n s.i (omega arith) (omega arith) (omega arith) r (omega arith)) made in
    let first = c.marks_before-at.ensures.0 in
    let all = c.marks_before-used.ensures.0 in (
      omega (arith, marks-order t s.n s.i (omega arith) (omega arith) (omega arith), first, all),
      omega (arith, size, all, held_all t s.n s.i (omega arith) (omega arith) (omega arith)),
      c.requires.1,
    )

pub returns : goal.returns
returns c =
    let s = c.args in
    let t = s.table.now in
    let r = row_of s.head.law s.head.samples s.head.marks in
    let note = note_of s.head.law s.octets.now in
    let new = mark_cells note.marks in
    let front = 2 * c.marks_before-at.result in
    let all = 2 * c.marks_before-used.result in
    let once = take 97 t ++ (c.insert.new.table ++ drop (length t - 97) (drop 97 t)) in
    let made = part-made 97 (λ (u : List ℕ). laid (insert_at s.i r (rows_of u)) u) t c.insert.ensures refl in
    note-put t s.n s.i (omega arith) (omega arith) (omega arith) note r new (omega arith)
    (heard-row c.requires.1.heard refl) refl
    (ap (λ (x : ℕ). 2 * x) c.marks_before-at.ensures.0) (ap (λ (x : ℕ). 2 * x) c.marks_before-used.ensures.0) made
    (part-made 194 (λ (u : List ℕ). opened u front all new) once c.open_taken.ensures refl)
