use Prim.Native.Nat.{ℕ, ◌*◌, ◌-◌}
use mathlib.Core.Path.{◌≡◌, refl, ap, ◌∙◌}
use mathlib.Core.List.{List, ◌++◌}
use native.Mathlib.Omega.{arith}
use lib.ListN.{length, get_or, take, drop, length-drop}
use lib.Seq.{get_or-drop}
use Rattle.store_notes.specs.declared.Head.{Head}
use Rattle.store_rows.specs.Cells.{rows_of, laid}
use Rattle.store_rows.specs.Changed.{remove_at}
use Rattle.rules.proofs.Lent.{from_on}
use Rattle.store_notes.specs.Cells.{heads_of}
use Rattle.store_notes.specs.Changed.{shut}
use Rattle.store_notes.proofs.Stored.{part-made, part_length, heads-less, held_all, marks-next, note-out}
use Rattle.store_notes.proofs.drop_note.Goals as goal

pub remove-requires : goal.remove-requires
remove-requires c =
    let t = c.args.table.now in
    let e = from_on t 97 in
    let first : get_or (take (length t - 97) (drop 97 t)) 0 0 ≡ get_or t 97 0 = ap (λ (x : List ℕ). get_or x 0 0) e ∙ get_or-drop 97 t 0 0 in
    (omega (arith, first), omega arith, omega arith, rw e (omega (arith, length-drop 97 t)))

pub shut_over-requires : goal.shut_over-requires
shut_over-requires c =
    let s = c.args in
    let t = s.table.now in
    let made = part-made 97 (λ (u : List ℕ). laid (remove_at s.i (rows_of u)) u) t c.remove.ensures refl in
    let size = part_length t s.n s.i (omega arith) (omega arith) (omega arith) (remove_at s.i (heads_of t))
    (heads-less t s.n s.i (omega arith) (omega arith) (omega arith) (omega arith)) made in
    let first = c.marks_before-at.ensures.0 in
    let all = c.marks_before-used.ensures.0 in
    let mine = ap (λ (h : Head). h.marks) c.head_at-h.ensures.0 in (
      omega (arith, marks-next t s.n s.i (omega arith) (omega arith) (omega arith), first, all, mine),
      omega (arith, size, all, held_all t s.n s.i (omega arith) (omega arith) (omega arith)),
    )

pub returns : goal.returns
returns c =
    let s = c.args in
    let t = s.table.now in
    let at = c.marks_before-at.ensures.0 in
    let used = c.marks_before-used.ensures.0 in
    let mine = ap (λ (h : Head). 2 * h.marks) c.head_at-h.ensures.0 in
    let front = 2 * c.marks_before-at.result in
    let all = 2 * c.marks_before-used.result in
    let by = 2 * c.head_at-h.result.marks in
    let once = take 97 t ++ (c.remove.new.table ++ drop (length t - 97) (drop 97 t)) in
    let made = part-made 97 (λ (u : List ℕ). laid (remove_at s.i (rows_of u)) u) t c.remove.ensures refl in
    note-out t s.n s.i (omega arith) (omega arith) (omega arith) (omega arith) (omega arith) mine (ap (λ (x : ℕ). 2 * x) at)
    (ap (λ (x : ℕ). 2 * x) used) made
    (part-made 194 (λ (u : List ℕ). shut u front all by) once c.shut_over.ensures refl)
