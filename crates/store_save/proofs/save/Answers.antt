-- What is judged, measured, and then written (Saving).
use mathlib.Core.Path.{refl}
use native.Mathlib.Omega.{arith}
use Rattle.store_save.proofs.Saving.{save-table, save-first, save-fits, save-room, save-text}
use Rattle.store_save.proofs.save.Goals as goal

pub returns-then-not-sane : goal.returns-then-not-sane
returns-then-not-sane c =
    let a = c.args in
    save-table a.block.now a.table.now a.out.now c.size_of-size.ensures c.sane.ensures
    (c.if-not-sane.true)

pub bounds-table-0 : goal.bounds-table-0
bounds-table-0 c =
    let a = c.args in
    save-first a.block.now a.table.now a.out.now c.size_of-size.ensures c.sane.ensures
    (c.if-not-sane.false)

pub text_octets-octets-requires : goal.text_octets-octets-requires
text_octets-octets-requires c =
    let a = c.args in
    save-fits a.block.now a.table.now a.out.now c.size_of-size.ensures c.sane.ensures
    (c.if-not-sane.false) refl

pub returns-then-out-octets : goal.returns-then-out-octets
returns-then-out-octets c =
    let a = c.args in
    save-room a.block.now a.table.now a.out.now c.size_of-size.ensures c.sane.ensures
    (c.if-not-sane.false) refl c.text_octets-octets.ensures (omega arith)

pub put_text-end-requires : goal.put_text-end-requires
put_text-end-requires c =
    let a = c.args in
    let f = save-fits a.block.now a.table.now a.out.now c.size_of-size.ensures c.sane.ensures
    (c.if-not-sane.false) refl in
    (f, omega (arith, c.text_octets-octets.ensures))

pub returns : goal.returns
returns c =
    let a = c.args in
    save-text a.block.now a.table.now a.out.now c.size_of-size.ensures c.sane.ensures
    (c.if-not-sane.false)
    refl c.text_octets-octets.ensures (omega arith) c.put_text-end.ensures
