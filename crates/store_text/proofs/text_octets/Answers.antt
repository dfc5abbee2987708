-- The first line, then the greetings: the second list and the marks are parts of the table.
use mathlib.Core.Path.{ap}
use native.Mathlib.Omega.{arith}
use lib.ListN.{length, length-append}
use Rattle.store_text.specs.Noted.{listed_text}
use Rattle.store_text.specs.Held.{held_of}
use Rattle.store_text.specs.Form.{form_by}
use Rattle.store_text.proofs.Formed.{form-few}
use Rattle.store_text.proofs.Writing.{parts-fit, parts-text}
use Rattle.store_text.proofs.text_octets.Goals as goal

pub octets_of-rest-requires : goal.octets_of-rest-requires
octets_of-rest-requires c = parts-fit c.args.table.now _ (omega arith) (omega arith)

pub overflow_add-result : goal.overflow_add-result
overflow_add-result c =
    omega (arith, c.octets_of-rest.ensures.most, c.form_octets-first.ensures, form-few c.args.size)

pub returns : goal.returns
returns c =
    let a = c.args in
    let l = length-append (form_by a.size) (listed_text (held_of a.table.now a.n)) in
    let m = ap length (parts-text a.table.now a.n) in
    omega (arith, l, m, c.octets_of-rest.ensures.value, c.form_octets-first.ensures)
