-- What was taken of a greeting's walk (`taken`): small enough for the table (`heard-small`, `heard-few`). It is the greeting's head
-- (`heard-row`), and its marks (`taken-cells`). Marks taken into cells that were raised are put in there (`walked-is`).
use Prim.Native.Nat.{ℕ, ◌+◌, ◌*◌, ◌-◌, ◌≤◌}
use mathlib.Core.Path.{◌≡◌, sym, ap, subst, ◌∙◌}
use mathlib.Core.List.{List, ◌++◌, append-nil}
use native.Mathlib.Omega.{arith}
use lib.ListN.{length, take, drop, length-drop, drop_of_length-le}
use lib.Seq.{paste, length-take-le, drop-drop}
use Rattle.rules.specs.Tools.{most_law}
use Rattle.rules.specs.Walk.{longest}
use Rattle.store_rows.specs.Rows.{row_of}
use Rattle.store_rows.specs.Changed.{written}
use Rattle.store_greeting.specs.declared.marks.Tally.{Tally}
use Rattle.std.proofs.Common.{Option, Some}
use Rattle.store_greeting.specs.Marks.{note_of, most_marks, mark_cells}
use Rattle.store_greeting.specs.Taking.{Takes}
use Rattle.store_greeting.proofs.Marked.{length-cells}
use Rattle.store_greeting.proofs.Taking.{taken-told}
use Rattle.store_greeting.proofs.Count.{note-few}
use Rattle.store_greeting.proofs.Bounds.{note-small}
use Rattle.store_notes.specs.declared.Head.{Head}
use Rattle.store_notes.specs.Cells.{head_row}
use Rattle.store_notes.specs.Changed.{opened, Heard, Taken}
use Rattle.store_notes.proofs.Opening.{opened-is}
use Rattle.store_notes.proofs.Noting.{cells-marks, marks-back}

pub taken : {law : ℕ} {xs cells cells' : List ℕ} {r : Option Tally} {a : Tally} → Takes law xs cells cells' r → r ≡ Some a → law ≤ most_law
    → length xs ≤ longest → length cells' ≡ length cells → Taken (record { law = law; samples = a.samples; marks = a.marks }) xs cells'
taken {law} {xs} {cells} {cells'} t e l g same =
    let k = subst (λ (o : Option Tally). Takes law xs cells cells' o) e t in
    let told = taken-told law xs k in
    let ms = (note_of law xs).marks in
    let rest = drop (2 * length ms) cells in
    record {
      heard = record { fine = told.0; lawful = l; short = g; samples-are = told.1; count = told.2 };
      marks-are = λ h.
          let lent : cells' ≡ mark_cells ms ++ rest = k.lent told.0 (omega (arith, told.2)) in
          rw (told.2, lent) (marks-back ms rest);
    }

module _ {head : Head} {xs : List ℕ} (h : Heard head xs) where
  pub heard-small : head.samples ≤ 320 * longest
  heard-small = omega (arith, h.samples-are, (note-small head.law xs).0, h.short)

  pub heard-few : head.marks ≤ most_marks (length xs)
  heard-few = omega (arith, h.count, note-few head.law xs)

  pub heard-row : {w : ℕ} → w ≡ head.law → row_of w head.samples head.marks ≡ head_row (note_of head.law xs)
  heard-row e = rw (e, h.samples-are, h.count)

  pub walked-is : (cells : List ℕ) (at used by : ℕ) {c₁ c₂ ys : List ℕ} {r : Option Tally} → at ≤ used → used + by ≤ length cells → by ≡ 2 * head.marks
      → length c₁ ≡ length cells → c₁ ≡ paste cells (at + by) (drop at cells) (used - at)
      → Takes head.law xs (take (at + by - at) (drop at c₁)) ys r
      → c₂ ≡ take at c₁ ++ (ys ++ drop (at + by - at) (drop at c₁)) → c₂ ≡ opened cells at used (mark_cells (note_of head.law xs).marks)
  unfolding written
  walked-is cells at used by {c₁} {c₂} {ys} o room e same p t q =
      let z : at + by - at ≡ by = omega arith in
      let ms = (note_of head.law xs).marks in
      let new = mark_cells ms in
      let size : length new ≡ by = length-cells ms ∙ omega (arith, h.count, e) in
      let part = take by (drop at c₁) in
      let long : length part ≡ by = length-take-le by (drop at c₁) (omega (arith, length-drop at c₁)) in
      let lent : ys ≡ new =
      (rw z at t).lent h.fine (omega (arith, long, h.count))
      ∙ ap (λ (l : List ℕ). new ++ l) (drop_of_length-le part {i = 2 * length ms} (omega (arith, long, h.count))) ∙ append-nil new in
      let w : c₂ ≡ written c₁ at new = q ∙ rw (z, lent, size, drop-drop by at c₁) in
      opened-is cells at used new o (omega (arith, size)) (rw size p) w

-- the marks' cells, where they had room
pub taken-cells : {head : Head} {xs cells : List ℕ} → Taken head xs cells → 2 * head.marks ≤ length cells
    → take (2 * head.marks) cells ≡ mark_cells (note_of head.law xs).marks
taken-cells {head} {cells = cells} t h = sym (cells-marks head.marks cells h) ∙ ap mark_cells (t.marks-are h)
