-- The octets of a word, two numbers, a comma and 0A.
use native.Mathlib.Omega.{arith}
use lib.ListN.{get_or}
use Rattle.text_keyvalue.proofs.Decimals.{decimal-few}
use Rattle.store_text.specs.Held.{mark_at}
use Rattle.store_text.proofs.Writing.{mark-length}
use Rattle.store_text.proofs.mark_octets.Goals as goal

pub overflow_add-result : goal.overflow_add-result
overflow_add-result c =
    let a = c.args in
    let e = c.digits-a.ensures in
    let r = c.type_inv.cells a.k in
    omega (arith, e, decimal-few 9 (get_or a.cells.now a.k 0) (omega (arith, r)))

pub overflow_add-result-2 : goal.overflow_add-result-2
overflow_add-result-2 c =
    let a = c.args in
    let e = c.digits-a.ensures in
    let r = c.type_inv.cells a.k in
    omega (arith, e, c.line_octets-b.ensures.most, decimal-few 9 (get_or a.cells.now a.k 0) (omega (arith, r)))

pub returns : goal.returns
returns c =
    let a = c.args in let e = c.digits-a.ensures in let r = c.type_inv.cells a.k in let f = decimal-few 9
    (get_or a.cells.now a.k 0) (omega (arith, r)) in let o = c.line_octets-b.ensures in record
    { value = omega (arith, e, o.value, mark-length (mark_at a.cells.now a.k)); most = omega (arith, e, f, o.most) }
