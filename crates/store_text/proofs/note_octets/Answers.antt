-- The octets of two lines and the marks.
use Prim.Native.Nat.{◌+◌}
use native.Mathlib.Omega.{arith}
use Rattle.store_text.specs.Held.{note_at}
use Rattle.store_text.proofs.Writing.{note-length}
use Rattle.store_text.proofs.note_octets.Goals as goal

pub marks_octets-c-requires : goal.marks_octets-c-requires
marks_octets-c-requires c =
    let a = c.args in
    let r = c.type_inv.cells (a.k + 2) in
    (omega arith, omega (arith, r))

pub overflow_add-result : goal.overflow_add-result
overflow_add-result c =
    omega (arith, c.line_octets-b.ensures.most, c.line_octets-a.ensures.most)

pub overflow_add-result-2 : goal.overflow_add-result-2
overflow_add-result-2 c =
    let a = c.args in
    let r = c.type_inv.cells (a.k + 2) in
    omega (arith, c.marks_octets-c.ensures.most, r, c.line_octets-b.ensures.most, c.line_octets-a.ensures.most)

pub returns : goal.returns
returns c =
    let a = c.args in
    let r = c.type_inv.cells (a.k + 2) in
    let o = c.marks_octets-c.ensures in
    let s = c.line_octets-b.ensures in
    let l = c.line_octets-a.ensures in
    record {
      value = omega (arith, note-length (note_at a.heads.now a.k a.cells.now), o.value, s.value, l.value);
      most = omega
          (arith, o.most, r, s.most, l.most);
    }
