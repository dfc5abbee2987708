-- The first line, then the greetings: the second list and the marks are parts of the table.
use native.Mathlib.Omega.{arith}
use Rattle.store_text.proofs.Writing.{parts-fit, parts-text}
use lib.ListN.{length-append}
use Rattle.text_lines.proofs.Putting.{puts-as, puts_then}
use Rattle.store_text.specs.Noted.{listed_text}
use Rattle.store_text.specs.Held.{held_of}
use Rattle.store_text.specs.Form.{form_by}
use Rattle.store_text.proofs.put_text.Goals as goal

pub put_form-at-requires : goal.put_form-at-requires
put_form-at-requires c =
    omega (arith, length-append (form_by c.args.size) (listed_text (held_of c.args.table.now c.args.n)))

pub put_all-requires : goal.put_all-requires
put_all-requires c =
    let a = c.args in
    let p = c.put_form-at.ensures in
    let l = length-append (form_by a.size) (listed_text (held_of a.table.now a.n)) in (
      parts-fit a.table.now _ (omega arith) (omega arith),
      rw (parts-text a.table.now a.n) (omega (arith, l, p.place, c.put_form-at.auto.out)),
    )

pub returns : goal.returns
returns c =
    let a = c.args in
    puts_then c.put_form-at.ensures (puts-as (parts-text a.table.now _) c.put_all.ensures)
